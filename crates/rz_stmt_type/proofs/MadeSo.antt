-- What the code asks of a `type` statement part by part, and what the language says, are the same.
use Rattle.std.proofs.Common.{◌≡◌, Bool, true, false, List, [], ◌∷◌, ◌++◌, Option, Some, None, refl, sym, ap, subst, ◌∙◌}
use Rattle.rz_core.proofs.Tests.{true_false}
use Rattle.rz_expr.specs.Keyword.{is_keyword}
use Rattle.rz_expr.specs.Term.{Term}
use Rattle.rz_words.specs.declared.keyword.Keyword.{Keyword}
use Rattle.rz_words.specs.declared.keyword.Keyword.TheVariants as keywords
use Rattle.rz_lex.specs.declared.sign.Sign.TheVariants as signs
use Rattle.rz_lex.specs.declared.token.Shape.{Shape}
use Rattle.rz_lex.specs.declared.token.Shape.TheVariants as shapes
use Rattle.rz_lex.specs.declared.token.Token.{Token}
use Rattle.rz_stmt_brackets.specs.Bracket.{begins, opens, IsBracketed}
use Rattle.rz_stmt_brackets.specs.Pieces.{Parted}
use Rattle.rz_stmt_brackets.specs.Statements.{is_empty}
use Rattle.rz_stmt_brackets.specs.declared.bracket.Bracket.{Bracket}
use Rattle.rz_stmt_brackets.specs.declared.bracket.Bracket.TheVariants.{Curly, Round, Square}
use Rattle.rz_stmt_data.specs.Typed.{IsTyped, Typed}
use Rattle.rz_stmt_type.specs.Declare.{copied, copied_of, for_any, for_ids, in_braces, IsMade}
use Rattle.rz_stmt_type.specs.DeclareSteps.{AreFieldsMade, AreForAny, AreForIds, AreScoped, IsCopy, IsCopyId, IsCopyIdBy}
use Rattle.rz_stmt_fields.specs.Form.{CopyOf, MadeForm, ScopeForm}

no_keyword : (keyword : Keyword) (bracket : Bracket) (shape : Shape) → opens bracket shape ≡ true → is_keyword keyword shape ≡ true → ⊥
no_keyword keyword Round (shapes.Word word) is also = true_false (sym is)
no_keyword keyword Square (shapes.Word word) is also = true_false (sym is)
no_keyword keyword Curly (shapes.Word word) is also = true_false (sym is)
no_keyword keyword bracket (shapes.Number number) is also = true_false (sym also)
no_keyword keyword bracket (shapes.Literal bytes) is also = true_false (sym also)
no_keyword keyword bracket (shapes.Text bytes) is also = true_false (sym also)
no_keyword keyword bracket (shapes.Sign sign) is also = true_false (sym also)

two_brackets : (shape : Shape) → opens Curly shape ≡ true → (opens Round shape ≡ false) × (opens Square shape ≡ false)
two_brackets (shapes.Sign signs.OpenBrace) is = (refl, refl)
two_brackets _ is = absurd (true_false (sym is))

pub begins_so : (bracket : Bracket) (tokens : List Token) (parted : Parted) → IsBracketed bracket tokens parted → begins bracket tokens ≡ true
begins_so bracket tokens parted is = ap (begins bracket) is.are ∙ is.opens

typed_begins : (bracket : Bracket) (tokens : List Token) (typed : Typed) → IsTyped keywords.As tokens typed → begins bracket tokens ≡ true → ⊥
typed_begins bracket tokens typed is opens = no_keyword keywords.As bracket is.word.shape (ap (begins bracket) (sym is.are) ∙ opens) is.is_word

curly_or_round : (tokens : List Token) → begins Curly tokens ≡ true → begins Round tokens ≡ true → ⊥
curly_or_round [] is also = true_false (sym is)
curly_or_round (token ∷ tokens) is also = true_false (sym also ∙ (two_brackets token.shape is).0)

pub curly_or_square : (tokens : List Token) → begins Curly tokens ≡ true → begins Square tokens ≡ true → ⊥
curly_or_square [] is also = true_false (sym is)
curly_or_square (token ∷ tokens) is also = true_false (sym also ∙ (two_brackets token.shape is).1)

pub not_empty : (bracket : Bracket) (tokens : List Token) (parted : Parted) → IsBracketed bracket tokens parted → is_empty tokens ≡ false
not_empty bracket tokens parted is = ap is_empty is.are ∙ by is.rest parted.front is.closes.are
  where
    by : (rest front : List Token) → rest ≡ front ++ is.closes.sign ∷ parted.behind → is_empty (is.opener ∷ rest) ≡ false
    by [] [] are = absurd (cc are)
    by [] (token ∷ front) are = absurd (cc are)
    by (token ∷ rest) front are = refl

-- What the type is.

pub fields_forth : (tokens : List Token) (made : MadeForm) → AreFieldsMade tokens made → IsMade tokens made
fields_forth tokens made is = in_braces is.0 is.1 is.2 is.3 is.4 is.5

pub fields_back : (tokens : List Token) → begins Curly tokens ≡ true → (made : MadeForm) → IsMade tokens made → AreFieldsMade tokens made
fields_back tokens begin made (in_braces parted body bracketed ends is so) = (parted, body, bracketed, ends, is, so)
fields_back tokens begin made (copied behind code typed ends so) = absurd (typed_begins Curly tokens _ typed begin)
fields_back tokens begin made (copied_of behind code parted id typed bracketed ends constant so) = absurd (typed_begins Curly tokens _ typed begin)

copy_by : (empty : Bool) (behind : List Token) (id : Option Term) → is_empty behind ≡ empty → IsCopyIdBy empty behind id → IsCopyId behind id
copy_by empty behind id same is = subst (λ (b : Bool). IsCopyIdBy b behind id) (sym same) is

pub copy_forth : (tokens : List Token) (made : MadeForm) → IsCopy tokens made → IsMade tokens made
copy_forth tokens made is = by (is_empty is.behind) refl is.has_id
  where
    by : (empty : Bool) → is_empty is.behind ≡ empty → IsCopyIdBy empty is.behind is.id → IsMade tokens made
    by true ends none = copied is.behind is.code is.typed ends (is.made_so ∙ ap (λ (o : Option Term). CopyOf is.code o) none)
    by false ends (parted, term, bracketed, end, constant, so) =
        copied_of is.behind is.code parted term is.typed bracketed end constant (is.made_so ∙ ap (λ (o : Option Term). CopyOf is.code o) so)

pub copy_back : (tokens : List Token) → begins Curly tokens ≡ false → (made : MadeForm) → IsMade tokens made → IsCopy tokens made
copy_back tokens begin made (in_braces parted body bracketed ends is so) = absurd (true_false (sym (begins_so Curly tokens parted bracketed) ∙ begin))
copy_back tokens begin made (copied behind code typed ends so) = record {
  behind = behind;
  code = code;
  id = None;
  typed = typed;
  has_id = copy_by true behind None ends refl;
  made_so = so;
}
copy_back tokens begin made (copied_of behind code parted id typed bracketed ends constant so) = record {
  behind = behind;
  code = code;
  id = Some id;
  typed = typed;
  has_id = copy_by false behind (Some id) (not_empty Round behind parted bracketed) (parted, id, bracketed, ends, constant, refl);
  made_so = so;
}

-- For which ids.

never_round : (tokens : List Token) (made : MadeForm) → begins Round tokens ≡ true → IsMade tokens made → ⊥
never_round tokens made round (in_braces parted body bracketed ends is so) = curly_or_round tokens (begins_so Curly tokens parted bracketed) round
never_round tokens made round (copied behind code typed ends so) = typed_begins Round tokens _ typed round
never_round tokens made round (copied_of behind code parted id typed bracketed ends constant so) = typed_begins Round tokens _ typed round

pub any_forth : (tokens : List Token) (parts : ScopeForm × MadeForm) → AreForAny tokens parts → AreScoped tokens parts
any_forth tokens parts is =
    for_any (ap (λ (p : ScopeForm × MadeForm). p.0) is.2) (subst (λ (m : MadeForm). IsMade tokens m) (sym (ap (λ (p : ScopeForm × MadeForm). p.1) is.2)) is.1)

pub any_back : (tokens : List Token) → begins Round tokens ≡ false → (parts : ScopeForm × MadeForm) → AreScoped tokens parts → AreForAny tokens parts
any_back tokens begin parts (for_any none is) = (parts.1, is, λ i. (none i, parts.1))
any_back tokens begin parts (for_ids parted bracketed scope is) = absurd (true_false (sym (begins_so Round tokens parted bracketed) ∙ begin))

pub ids_forth : (tokens : List Token) (parts : ScopeForm × MadeForm) → AreForIds tokens parts → AreScoped tokens parts
ids_forth tokens parts is = subst (AreScoped tokens) (sym is.6) (for_ids is.0 is.3 is.4 is.5)

pub ids_back : (tokens : List Token) → begins Round tokens ≡ true → (parts : ScopeForm × MadeForm) → AreScoped tokens parts → AreForIds tokens parts
ids_back tokens begin parts (for_any none is) = absurd (never_round tokens parts.1 begin is)
ids_back tokens begin parts (for_ids parted bracketed scope is) = (parted, parts.0, parts.1, bracketed, scope, is, refl)
