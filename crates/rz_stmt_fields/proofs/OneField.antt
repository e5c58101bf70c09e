-- Fields with no fields of their own are one at most.
use Rattle.std.proofs.Common.{◌≡◌, ℕ, Bool, List, [], ◌∷◌, Some, sym, ap, subst, ◌∙◌}
use Rattle.rz_expr.proofs.OneTerm.{OneExpression}
use Rattle.rz_core.proofs.Tests.{same_some}
use Rattle.rz_stmt_brackets.specs.Pieces.{Parted}
use Rattle.rz_stmt_brackets.specs.declared.bracket.Bracket.TheVariants.{Curly, Square}
use Rattle.rz_stmt_brackets.specs.declared.pieces.Divider.TheVariants.{Comma}
use Rattle.rz_expr.specs.Term.{Term}
use Rattle.rz_lex.specs.declared.token.Token.{Token}
use Rattle.rz_stmt_fields.specs.Each.{AreEach}
use Rattle.rz_stmt_fields.specs.FieldForm.{align_of, AreNumbers, IsCount, IsFieldFront, IsFieldOf, IsFill, IsFillOf, IsPoints, IsPointsField}
use Rattle.rz_expr.specs.Constant.{IsConstant}
use Rattle.rz_stmt_fields.specs.FieldValue.{IsFixedExpression}
use Rattle.rz_stmt_fields.specs.FieldWord.{unit_in, FieldFront}
use Rattle.rz_stmt_fields.specs.Form.{Align, FieldForm, Fill, Number, NumberForm, Points}
use Rattle.rz_stmt_fields.specs.declared.field_word.FieldWord.{FieldWord}
use Rattle.rz_stmt_fields.specs.declared.field_word.FieldWord.TheVariants as words
use Rattle.rz_stmt_fields.proofs.Each.{one_each}
use Rattle.rz_stmt_fields.proofs.OneNumber.{one_number}
use Rattle.rz_stmt_fields.proofs.OneTerm.{OneCut, OneWithin}
use Rattle.rz_stmt_fields.proofs.OneValue.{one_constant, one_fixed_expression}
use Rattle.rz_types_fields.specs.Field.{PlainPoints}

module _ (one : OneExpression) (cut : OneCut) (within : OneWithin) where
  one_numbers : (rect : Bool) (tokens : List Token) (a b : List Term) → AreNumbers rect tokens a → AreNumbers rect tokens b → a ≡ b
  one_numbers rect tokens a b is also =
      let pieces = cut Comma tokens is.0 also.0 is.1 also.1 in
      one_each IsFixedExpression (one_fixed_expression one) also.0 a b (subst (λ (ps : List (List Token)). AreEach IsFixedExpression ps a) pieces is.3) also.3

  one_points : (rect : Bool) (tokens : List Token) (a b : PlainPoints) → IsPoints rect tokens a → IsPoints rect tokens b → a ≡ b
  one_points rect [] a b is also = is ∙ sym also
  one_points rect (token ∷ tokens) a b is also =
      let parted = within Curly tokens is.0 also.0 is.3 also.3 in
      let terms = one_numbers rect also.0.front is.1 also.1 (subst (λ (p : Parted). AreNumbers rect p.front is.1) parted is.5) also.5 in
      is.6 ∙ ap (λ (l : List Term). record { rect = rect; fixed = Some l }) terms ∙ sym also.6

  one_points_field : (rect : Bool) (front : FieldFront) (a b : FieldForm) → IsPointsField rect front a → IsPointsField rect front b → a ≡ b
  one_points_field rect front a b is also =
      is.3 ∙ ap (λ (p : PlainPoints). Points p) (one_points rect front.tail is.0 also.0 is.2 also.2) ∙ sym also.3

  one_count : (tokens : List Token) (a b : Term) → IsCount tokens a → IsCount tokens b → a ≡ b
  one_count tokens a b is also =
      one_constant one also.0.front a b (subst (λ (p : Parted). IsConstant p.front a) (within Square tokens is.0 also.0 is.1 also.1) is.3) also.3

  fill_of : (unit : ℕ) (tokens : List Token) (a b : FieldForm) → IsFillOf unit tokens a → IsFillOf unit tokens b → a ≡ b
  fill_of unit [] a b is also = is ∙ sym also
  fill_of unit (token ∷ tokens) a b is also =
      is.2 ∙ ap (λ (t : Term). Fill unit (Some t)) (one_count (token ∷ tokens) is.0 also.0 is.1 also.1) ∙ sym also.2

  one_fill : (tokens : List Token) (a b : FieldForm) → IsFill tokens a → IsFill tokens b → a ≡ b
  one_fill [] a b is also = absurd is
  one_fill (token ∷ tokens) a b is also =
      let unit : is.0 ≡ also.0 = same_some (unit_in token.shape) is.0 also.0 is.1 also.1 in
      fill_of also.0 tokens a b (subst (λ n. IsFillOf n tokens a) unit is.2) also.2

  field_of : (word : FieldWord) (front : FieldFront) (a b : FieldForm) → IsFieldOf word front a → IsFieldOf word front b → a ≡ b
  field_of (words.Number form) front a b is also =
      is.2 ∙ ap (λ (n : NumberForm). Number n) (one_number one cut within form front is.0 also.0 is.1 also.1) ∙ sym also.2
  field_of (words.Text form) front a b is also = absurd is
  field_of (words.Points rect) front a b is also = one_points_field rect front a b is also
  field_of words.Fill front a b is also = one_fill front.tail a b is.1 also.1
  field_of words.Align front a b is also = is.3 ∙ ap (λ (u : ℕ). Align u) (same_some (align_of front.tail) is.0 also.0 is.2 also.2) ∙ sym also.3

  pub one_front : (front : FieldFront) (a b : FieldForm) → IsFieldFront front a → IsFieldFront front b → a ≡ b
  one_front front a b is also = field_of front.word front a b is also
