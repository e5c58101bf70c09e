-- Names that are cut as one word.
use Rattle.std.proofs.Common.{◌≡◌, ℕ, Bool, true, false, ◌&&◌, List, [], ◌∷◌, refl, sym, ap, subst, ◌∙◌}
use Rattle.std.specs.Str.{bytes_eq}
use Rattle.std.proofs.lemmas.Slice.Eq.{bytes_eq-Decides}
use Rattle.rz_core.specs.declared.resource.Word.{Word}
use Rattle.rz_words.specs.Words.{is_label, role_of}
use Rattle.rz_lex.specs.Cutting.{Cuts}
use Rattle.rz_lex.specs.declared.token.Shape.{Shape}
use Rattle.rz_lex.specs.declared.token.Shape.TheVariants as shapes
use Rattle.rz_lex.specs.declared.token.Token.{Token}
use Rattle.rz_tools_args.specs.Definition.{nowhere, IsName}
use Rattle.rz_tools_args.specs.Line.{is_one_word, is_word}
use Rattle.rz_tools_args.proofs.Found.{same_word}

alike : (a : List ℕ) → bytes_eq a a ≡ true
alike a = (bytes_eq-Decides a a).1 refl

word_of : (shape : Shape) (bytes : List ℕ) → is_word shape bytes ≡ true → shape ≡ shapes.Word (record { bytes = bytes })
word_of (shapes.Word word) bytes is = λ i. shapes.Word (record { bytes = same_word word.bytes bytes is i })
word_of (shapes.Number number) bytes is = cc
word_of (shapes.Literal literal) bytes is = cc
word_of (shapes.Text text) bytes is = cc
word_of (shapes.Sign sign) bytes is = cc

-- this word alone
abbrev pub alone : Word → List Token
alone word = record { shape = shapes.Word word; mark = nowhere } ∷ []

-- the tokens of a line that are one word are this word
pub one_word : (tokens : List Token) (line bytes : List ℕ) → is_one_word tokens bytes ≡ true → Cuts nowhere line tokens
    → Cuts nowhere line (record { shape = shapes.Word (record { bytes = bytes }); mark = nowhere } ∷ [])
one_word [] line bytes is cuts = absurd (cc is)
one_word (token ∷ []) line bytes is (rest, (after, next, led), blank) =
    subst (λ (t : Token). Cuts nowhere line (t ∷ []))
    (λ i. record { shape = word_of token.shape bytes is i; mark = next.place i })
    (rest, (after, next, led), blank)
one_word (token ∷ second ∷ tokens) line bytes is cuts = absurd (cc is)

parts : (a b : Bool) → (a && b) ≡ true → (a ≡ true) × (b ≡ true)
parts true b is = (refl, is)
parts false b is = absurd (cc is)

pub named : (tokens : List Token) (name bytes : List ℕ) → bytes ≡ name → Cuts nowhere name tokens
    → (is_one_word tokens bytes && is_label (role_of bytes)) ≡ true → IsName name (record { bytes = bytes })
named tokens name bytes same cuts is = record {
  spelled = same;
  one = one_word tokens name bytes (parts _ _ is).0 cuts;
  free = subst (λ (b : List ℕ). is_label (role_of b) ≡ true) same (parts _ _ is).1;
}

both : (a b : Bool) → a ≡ true → b ≡ true → (a && b) ≡ true
both a b is also = λ i. is i && also i

-- and a name is found
pub not_named : (tokens : List Token) (name bytes : List ℕ) → bytes ≡ name
    → (is_one_word tokens bytes && is_label (role_of bytes)) ≡ false
    → (word : Word) → IsName name word → tokens ≡ record { shape = shapes.Word word; mark = nowhere } ∷ [] → ⊥
not_named tokens name bytes spelled fails word is tokens_are =
    let one : is_one_word tokens bytes ≡ true =
    ap (λ (ts : List Token). is_one_word ts bytes) tokens_are ∙ subst (λ (b : List ℕ). bytes_eq word.bytes b ≡ true) (is.spelled ∙ sym spelled) (alike word.bytes) in
    let free : is_label (role_of bytes) ≡ true = subst (λ (b : List ℕ). is_label (role_of b) ≡ true) (sym spelled) is.free in
    let holds : (is_one_word tokens bytes && is_label (role_of bytes)) ≡ true = both _ _ one free in
    cc
