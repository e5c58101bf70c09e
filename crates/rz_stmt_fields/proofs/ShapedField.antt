-- Fields with no fields of their own are formed as they should be.
use Rattle.std.proofs.Common.{◌≡◌, ℕ, ◌==◌, ◌&&◌, not, Bool, true, false, if◌then◌else◌, List, [], ◌∷◌, length, Option, Some, None, refl, sym, ap, subst, ◌∙◌, arith}
use Rattle.std.specs.Prelude.{option_and_then}
use Rattle.std.specs.List.{list_all}
use Rattle.std.proofs.lemmas.Bool.{eq-eqb}
use Rattle.std.proofs.lemmas.Option.{same_Some}
use Rattle.rz_expr.specs.Keyword.{keyword_in}
use Rattle.rz_expr.specs.Term.{Term}
use Rattle.rz_words.specs.declared.keyword.Keyword.{Keyword}
use Rattle.rz_words.specs.declared.keyword.Keyword.TheVariants as keywords
use Rattle.rz_lex.specs.Lexeme.{AreLexed}
use Rattle.rz_lex.specs.declared.token.Shape.{Shape}
use Rattle.rz_lex.specs.declared.token.Token.{Token}
use Rattle.rz_stmt_fields.specs.Each.{AreEach}
use Rattle.rz_stmt_fields.specs.FieldForm.{align_of, count_of, AreNumbers, IsFieldFront, IsFieldOf, IsFill, IsFillOf, IsPoints}
use Rattle.rz_stmt_fields.specs.FieldFront.{IsFront}
use Rattle.rz_stmt_fields.specs.FieldValue.{IsFixedExpression}
use Rattle.rz_stmt_fields.specs.FieldWord.{align_unit, unit_in, unit_word, FieldFront}
use Rattle.rz_stmt_fields.specs.Form.{case_and, field_and, no_cases, no_fields, Align, Array, BodyForm, CasesForm, FieldForm, Fill, Label, Number, Points, Switch, Text}
use Rattle.rz_stmt_fields.specs.Key.{IsKey, IsKeyOf}
use Rattle.rz_stmt_fields.specs.declared.field_word.FieldWord.{FieldWord}
use Rattle.rz_stmt_fields.specs.declared.field_word.FieldWord.TheVariants as words
use Rattle.rz_stmt_fields.proofs.Pieces.{lexed_behind}
use Rattle.rz_stmt_fields.proofs.ShapedNumber.{key_formed, no_key_formed, number_formed, IsKeyFormed, IsNumberFormed}
use Rattle.rz_types_fields.specs.Field.{PlainPoints}
use Rattle.rz_types_fields.specs.Shape.{are_fixed_points, is_label_name, is_none_or, is_own_name, is_points_shaped, is_text_shaped, is_unit, numbers_of}
use Rattle.rz_types_fields.specs.Value.{is_fixed_expression}

pub tail_lexed : (tokens : List Token) (front : FieldFront) → IsFront tokens front → AreLexed tokens → AreLexed front.tail
tail_lexed tokens front is are = (lexed_behind is.words (is.last ∷ front.tail) (subst AreLexed is.are are)).1

-- Points and rectangles.

each_field : (pieces : List (List Token)) (terms : List Term) → AreEach IsFixedExpression pieces terms → (length terms ≡ length pieces) × (list_all is_fixed_expression terms ≡ true)
each_field [] terms is = (ap length is, ap (list_all is_fixed_expression) is)
each_field (piece ∷ pieces) terms is =
    let rest = each_field pieces is.1 is.3 in
    let first = is.2.1 in
    (ap length is.4 ∙ omega (arith, rest.0), ap (list_all is_fixed_expression) is.4 ∙ (λ i. first i && rest.1 i))

same_count : (rect : Bool) → count_of rect ≡ numbers_of rect
same_count true = refl
same_count false = refl

numbers_shaped : (rect : Bool) (tokens : List Token) (terms : List Term) → AreNumbers rect tokens terms → are_fixed_points rect terms ≡ true
numbers_shaped rect tokens terms is =
    let all = each_field is.0 terms is.3 in
    let count = eq-eqb (length terms) (numbers_of rect) (all.0 ∙ is.2 ∙ same_count rect) in
    λ i. count i && all.1 i

points_shaped : (rect : Bool) (tokens : List Token) (points : PlainPoints) → IsPoints rect tokens points → is_points_shaped points ≡ true
points_shaped rect [] points is = ap is_points_shaped is
points_shaped rect (token ∷ tokens) points is = ap is_points_shaped is.6 ∙ numbers_shaped rect is.0.front is.1 is.5

-- Units.

abbrev AllUnits : Option ℕ → Type 0
AllUnits None = Unit {0}
AllUnits (Some unit) = is_unit unit ≡ true

word_unit : (keyword : Keyword) → AllUnits (unit_word keyword)
word_unit keywords.Bit = refl
word_unit keywords.Nibble = refl
word_unit keywords.Byte = refl
word_unit keywords.Word = refl
word_unit keywords.Long = refl
word_unit keyword = tt

shape_unit : (shape : Shape) → AllUnits (unit_in shape)
shape_unit shape = by (keyword_in shape)
  where
    by : (found : Option Keyword) → AllUnits (option_and_then unit_word found)
    by None = tt
    by (Some keyword) = word_unit keyword

unit_shaped : (shape : Shape) (unit : ℕ) → unit_in shape ≡ Some unit → is_unit unit ≡ true
unit_shaped shape unit is = subst AllUnits is (shape_unit shape)

align_shaped : (found : Option ℕ) (unit : ℕ) → AllUnits found → align_unit found ≡ Some unit → (is_unit unit && not (unit == 1)) ≡ true
align_shaped None unit units is = cc
align_shaped (Some bits) unit units is = by (bits == 1) refl is
  where
    by : (one : Bool) → (bits == 1) ≡ one → (if one then None else Some bits) ≡ Some unit → (is_unit unit && not (unit == 1)) ≡ true
    by true one so = cc
    by false one so = subst (λ n. (is_unit n && not (n == 1)) ≡ true) (same_Some bits unit so) (λ i. units i && not (one i))

align_by : (tokens : List Token) (unit : ℕ) → align_of tokens ≡ Some unit → (is_unit unit && not (unit == 1)) ≡ true
align_by [] unit is = cc
align_by (token ∷ []) unit is = align_shaped (unit_in token.shape) unit (shape_unit token.shape) is
align_by (token ∷ other ∷ tokens) unit is = cc

-- Fields as they are written.

abbrev mutual
  pub IsFieldFormed : (in_case : Bool) → FieldForm → Type 0
  IsFieldFormed in_case (Number number) = IsNumberFormed number × IsKeyFormed in_case number
  IsFieldFormed in_case (Text text) = is_text_shaped text ≡ true
  IsFieldFormed in_case (Points points) = is_points_shaped points ≡ true
  IsFieldFormed in_case (Fill unit count) = is_unit unit ≡ true
  IsFieldFormed in_case (Align unit) = (is_unit unit && not (unit == 1)) ≡ true
  IsFieldFormed in_case (Label name) = is_label_name name ≡ true
  IsFieldFormed in_case (Array name count row) = (is_none_or is_own_name name ≡ true) × IsBodyFormed false row
  IsFieldFormed in_case (Switch cases) = AreCasesFormed cases

  pub IsBodyFormed : (in_case : Bool) → BodyForm → Type 0
  IsBodyFormed in_case no_fields = Unit {0}
  IsBodyFormed in_case (field_and field fields) = IsFieldFormed in_case field × IsBodyFormed in_case fields

  pub AreCasesFormed : CasesForm → Type 0
  AreCasesFormed no_cases = Unit {0}
  AreCasesFormed (case_and name row cases) = (is_own_name name ≡ true) × IsBodyFormed true row × AreCasesFormed cases

module _ (in_case : Bool) where
  fill_of : (unit : ℕ) (tokens : List Token) (field : FieldForm) → is_unit unit ≡ true → IsFillOf unit tokens field → IsFieldFormed in_case field
  fill_of unit [] field shaped is = subst (IsFieldFormed in_case) (sym is) shaped
  fill_of unit (token ∷ tokens) field shaped is = subst (IsFieldFormed in_case) (sym is.2) shaped

  fill_formed : (tokens : List Token) (field : FieldForm) → IsFill tokens field → IsFieldFormed in_case field
  fill_formed [] field is = absurd is
  fill_formed (token ∷ tokens) field is = fill_of is.0 tokens field (unit_shaped token.shape is.0 is.1) is.2

  field_of : (word : FieldWord) (front : FieldFront) (field : FieldForm) → IsFieldOf word front field → AreLexed front.tail → IsFieldFormed in_case field
  field_of (words.Number form) front field is are =
      subst (IsFieldFormed in_case) (sym is.2) (number_formed form front is.0 is.1 are, no_key_formed form front is.0 in_case is.1)
  field_of (words.Text form) front field is are = absurd is
  field_of (words.Points rect) front field is are = subst (IsFieldFormed in_case) (sym is.3) (points_shaped rect front.tail is.0 is.2)
  field_of words.Fill front field is are = fill_formed front.tail field is.1
  field_of words.Align front field is are = subst (IsFieldFormed in_case) (sym is.3) (align_by front.tail is.0 is.2)

  pub field_formed : (front : FieldFront) (field : FieldForm) → IsFieldFront front field → AreLexed front.tail → IsFieldFormed in_case field
  field_formed front field is are = field_of front.word front field is are

key_of : (word : FieldWord) (front : FieldFront) (field : FieldForm) → IsKeyOf word front field → AreLexed front.tail → IsFieldFormed true field
key_of (words.Number form) front field is are =
    let number = number_formed form front is.1.0 is.1.1 are in
    subst (IsFieldFormed true) (sym is.1.3) (
      record { width = number.width; names = number.names; fixed = number.fixed },
      key_formed form front is.1.0 is.0 is.1.1 is.1.2,
    )
key_of word front field is are = absurd is

pub a_key_formed : (tokens : List Token) (field : FieldForm) → IsKey tokens field → AreLexed tokens → IsFieldFormed true field
a_key_formed tokens field is are = key_of is.0.word is.0 field is.2 (tail_lexed tokens is.0 is.1 are)
