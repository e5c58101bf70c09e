-- What stands before the fields of an array is one thing, and its first token tells what it is.
use Rattle.std.proofs.Common.{◌≡◌, true, false, List, [], ◌∷◌, Some, None, refl, sym, ap, subst, ◌∙◌}
use Rattle.rz_expr.proofs.OneTerm.{OneExpression}
use Rattle.rz_core.proofs.Tests.{same_some, true_false}
use Rattle.rz_core.specs.declared.resource.Word.{Word}
use Rattle.rz_stmt_brackets.specs.Bracket.{begins, opens}
use Rattle.rz_stmt_brackets.specs.Pieces.{Parted}
use Rattle.rz_stmt_brackets.specs.declared.bracket.Bracket.{Bracket}
use Rattle.rz_stmt_brackets.specs.declared.bracket.Bracket.TheVariants.{Curly, Square}
use Rattle.rz_expr.specs.Constant.{IsConstant}
use Rattle.rz_lex.specs.declared.token.Shape.{Shape}
use Rattle.rz_lex.specs.declared.token.Shape.TheVariants as shapes
use Rattle.rz_lex.specs.declared.token.Token.{Token}
use Rattle.rz_stmt_type.specs.Head.{bare, counted, named, ArrayFront, IsArrayFront, IsBare, IsBraced, IsCounted, IsNamed}
use Rattle.rz_stmt_fields.specs.Symbols.{name_in}
use Rattle.rz_stmt_type.proofs.MadeSo.{begins_so, curly_or_square}
use Rattle.rz_stmt_fields.proofs.OneTerm.{OneWithin}
use Rattle.rz_stmt_fields.proofs.OneValue.{one_constant}

-- Which of the three it is.

no_name_opens : (bracket : Bracket) (shape : Shape) (name : Word) → name_in shape ≡ Some name → opens bracket shape ≡ false
no_name_opens Curly (shapes.Word word) name is = refl
no_name_opens Square (shapes.Word word) name is = refl
no_name_opens bracket (shapes.Word word) name is = refl
no_name_opens bracket (shapes.Number number) name is = cc
no_name_opens bracket (shapes.Literal bytes) name is = cc
no_name_opens bracket (shapes.Text bytes) name is = cc
no_name_opens bracket (shapes.Sign sign) name is = cc

bare_begins : (tokens : List Token) (front : ArrayFront) → IsBare tokens front → begins Curly tokens ≡ true
bare_begins tokens front is = begins_so Curly tokens is.1.0 is.1.1

counted_begins : (tokens : List Token) (front : ArrayFront) → IsCounted tokens front → begins Square tokens ≡ true
counted_begins tokens front is = begins_so Square tokens is.0 is.3

named_begins : (bracket : Bracket) (tokens : List Token) (front : ArrayFront) → IsNamed tokens front → begins bracket tokens ≡ false
named_begins bracket [] front is = absurd is
named_begins bracket (token ∷ tokens) front is = no_name_opens bracket token.shape is.0 is.2

module _ (tokens : List Token) (front : ArrayFront) where
  pub counted_back : begins Square tokens ≡ true → IsArrayFront tokens front → IsCounted tokens front
  counted_back square (bare is) = absurd (curly_or_square tokens (bare_begins tokens front is) square)
  counted_back square (named is) = absurd (true_false (sym square ∙ named_begins Square tokens front is))
  counted_back square (counted is) = is

  pub bare_back : begins Curly tokens ≡ true → IsArrayFront tokens front → IsBare tokens front
  bare_back curly (bare is) = is
  bare_back curly (named is) = absurd (true_false (sym curly ∙ named_begins Curly tokens front is))
  bare_back curly (counted is) = absurd (curly_or_square tokens curly (counted_begins tokens front is))

  pub named_back : begins Square tokens ≡ false → begins Curly tokens ≡ false → IsArrayFront tokens front → IsNamed tokens front
  named_back square curly (bare is) = absurd (true_false (sym (bare_begins tokens front is) ∙ curly))
  named_back square curly (named is) = is
  named_back square curly (counted is) = absurd (true_false (sym (counted_begins tokens front is) ∙ square))

-- One at most.

module _ (within : OneWithin) where
  pub one_braced : (tokens a b : List Token) → IsBraced tokens a → IsBraced tokens b → a ≡ b
  one_braced tokens a b is also = is.3 ∙ ap (λ (p : Parted). p.front) (within Curly tokens is.0 also.0 is.1 also.1) ∙ sym also.3

  one_bare : (tokens : List Token) (a b : ArrayFront) → IsBare tokens a → IsBare tokens b → a ≡ b
  one_bare tokens a b is also =
      is.2 ∙ ap (λ (row : List Token). record { name = None; count = None; row = row }) (one_braced tokens is.0 also.0 is.1 also.1) ∙ sym also.2

  one_named : (tokens : List Token) (a b : ArrayFront) → IsNamed tokens a → IsNamed tokens b → a ≡ b
  one_named [] a b is also = absurd is
  one_named (token ∷ tokens) a b is also =
      let name : is.0 ≡ also.0 = same_some (name_in token.shape) is.0 also.0 is.2 also.2 in
      let row = one_braced tokens is.1 also.1 is.3 also.3 in
      is.4 ∙ (λ i. record { name = Some (name i); count = None; row = row i }) ∙ sym also.4

  module _ (one : OneExpression) where
    one_counted : (tokens : List Token) (a b : ArrayFront) → IsCounted tokens a → IsCounted tokens b → a ≡ b
    one_counted tokens a b is also =
        let parted = within Square tokens is.0 also.0 is.3 also.3 in
        let count = one_constant one also.0.front is.1 also.1 (subst (λ (p : Parted). IsConstant p.front is.1) parted is.4) also.4 in
        let row = one_braced also.0.behind is.2 also.2 (subst (λ (p : Parted). IsBraced p.behind is.2) parted is.5) also.5 in
        is.6 ∙ (λ i. record { name = None; count = Some (count i); row = row i }) ∙ sym also.6

    pub one_array_front : (tokens : List Token) (a b : ArrayFront) → IsArrayFront tokens a → IsArrayFront tokens b → a ≡ b
    one_array_front tokens a b (bare is) also = one_bare tokens a b is (bare_back tokens b (bare_begins tokens a is) also)
    one_array_front tokens a b (named is) also =
        one_named tokens a b is (named_back tokens b (named_begins Square tokens a is) (named_begins Curly tokens a is) also)
    one_array_front tokens a b (counted is) also = one_counted tokens a b is (counted_back tokens b (counted_begins tokens a is) also)
