-- A file that a statement names, and its end.
use Rattle.std.proofs.Common.{◌≡◌, ℕ, true, false, List, [], ◌∷◌, Option, Some, None, refl, sym, ap, ◌∙◌}
use Rattle.std.specs.Option.{is_some}
use Rattle.rz_core.specs.Decided.{Decided}
use Rattle.rz_core.proofs.Tests.{none_some, true_false}
use Rattle.rz_lex.specs.declared.token.Shape.{Shape}
use Rattle.rz_lex.specs.declared.token.Shape.TheVariants as shapes
use Rattle.rz_lex.specs.declared.token.Token.{Token}
use Rattle.rz_stmt_brackets.specs.Statements.{is_empty, is_semicolon}
use Rattle.rz_stmt_data.proofs.FileNames.{file_found, file_is}
use Rattle.rz_stmt_data.specs.Files.{begins_with_text, behind_texts, file_in, text_of}
use Rattle.rz_stmt_lists.specs.Read.{IsNamed}

-- a `;` is no text
no_semicolon : (shape : Shape) → is_semicolon shape ≡ true → is_some (text_of shape) ≡ false
no_semicolon (shapes.Sign sign) is = refl
no_semicolon (shapes.Text bytes) is = absurd (true_false (sym is))
no_semicolon (shapes.Word word) is = refl
no_semicolon (shapes.Number number) is = refl
no_semicolon (shapes.Literal bytes) is = refl

pub end_no_text : (rest : List Token) → is_empty rest ≡ true → begins_with_text rest ≡ false
end_no_text [] is = refl
end_no_text (t ∷ []) is = no_semicolon t.shape is
end_no_text (t ∷ u ∷ ts) is = absurd (true_false (sym is))

pub named_is : (tokens : List Token) (name : List ℕ) → is_empty (behind_texts tokens) ≡ true → file_in tokens ≡ Some name → IsNamed tokens name
named_is tokens name ends is =
    let found = file_is tokens name is in
    record { file = found.0; rest = behind_texts tokens; are = found.1; has_file = found.2; ends = ends }

pub named_so : (tokens : List Token) (name : List ℕ) → IsNamed tokens name → (file_in tokens ≡ Some name) × (is_empty (behind_texts tokens) ≡ true)
named_so tokens name is =
    let found = file_found tokens is.file is.rest name is.are is.has_file (end_no_text is.rest is.ends) in
    (found.0, ap (λ (ts : List Token). is_empty ts) found.1 ∙ is.ends)

pub named_decided : (tokens : List Token) → is_empty (behind_texts tokens) ≡ true → (found : Option (List ℕ)) → found ≡ file_in tokens → Decided (IsNamed tokens) found
named_decided tokens ends None same = λ name is. none_some name (same ∙ (named_so tokens name is).0)
named_decided tokens ends (Some name) same = named_is tokens name ends (sym same)
