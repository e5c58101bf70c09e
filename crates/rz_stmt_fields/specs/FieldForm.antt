-- The fields of type declarations that have no fields of their own, texts aside, as they are written. (MPW Rez.)
use Rattle.std.specs.Prelude.{◌≡◌, ℕ, Bool, true, not, ◌&&◌, if◌then◌else◌, List, [], ◌∷◌, length, Option, Some, None}
use Rattle.std.specs.Option.{is_none}
use Rattle.rz_expr.specs.Term.{Term}
use Rattle.rz_lex.specs.declared.token.Token.{Token}
use Rattle.rz_stmt_brackets.specs.Bracket.{IsBracketed}
use Rattle.rz_stmt_brackets.specs.Pieces.{AreCut, Parted}
use Rattle.rz_stmt_brackets.specs.declared.bracket.Bracket.TheVariants.{Curly, Square}
use Rattle.rz_stmt_brackets.specs.declared.pieces.Divider.TheVariants.{Comma}
use Rattle.rz_stmt_fields.specs.Each.{AreEach}
use Rattle.rz_expr.specs.Constant.{IsConstant}
use Rattle.rz_stmt_fields.specs.FieldValue.{is_equals, IsFixedExpression}
use Rattle.rz_stmt_fields.specs.FieldWord.{align_unit, unit_in, FieldFront}
use Rattle.rz_stmt_fields.specs.Form.{Align, FieldForm, Fill, Number, NumberForm, Points}
use Rattle.rz_stmt_fields.specs.NumberField.{IsNumber}
use Rattle.rz_stmt_fields.specs.declared.field_word.FieldWord.{FieldWord}
use Rattle.rz_stmt_fields.specs.declared.field_word.FieldWord.TheVariants as words
use Rattle.rz_types_fields.specs.Field.{PlainPoints}
use Rattle.rz_types_fields.specs.declared.field.NumForm.{NumForm}

-- nothing stands before the word of the field
abbrev pub is_bare : FieldFront → Bool
is_bare front = not front.unsigned && is_none front.radix

-- Points and rectangles.

abbrev pub count_of : Bool → ℕ
count_of rect = if rect then 4 else 2

-- two numbers, or four, with commas between them
abbrev pub AreNumbers : Bool → List Token → List Term → Type 0
AreNumbers rect tokens terms =
    (pieces : List (List Token)) × AreCut Comma tokens pieces × (length pieces ≡ count_of rect) × AreEach IsFixedExpression pieces terms

-- nothing, or `=` and the numbers in braces
abbrev pub IsPoints : Bool → List Token → PlainPoints → Type 0
IsPoints rect [] points = points ≡ record { rect = rect; fixed = None }
IsPoints rect (token ∷ tokens) points =
    (parted : Parted) × (terms : List Term) × (is_equals token.shape ≡ true) × IsBracketed Curly tokens parted × (length parted.behind ≡ 0)
    × AreNumbers rect parted.front terms × (points ≡ record { rect = rect; fixed = Some terms })

abbrev pub IsPointsField : Bool → FieldFront → FieldForm → Type 0
IsPointsField rect front field = (points : PlainPoints) × (is_bare front ≡ true) × IsPoints rect front.tail points × (field ≡ Points points)

-- Filling.

-- a constant in square brackets, after which nothing stands
abbrev pub IsCount : List Token → Term → Type 0
IsCount tokens count = (parted : Parted) × IsBracketed Square tokens parted × (length parted.behind ≡ 0) × IsConstant parted.front count

abbrev pub IsFillOf : ℕ → List Token → FieldForm → Type 0
IsFillOf unit [] field = field ≡ Fill unit None
IsFillOf unit (token ∷ tokens) field = (count : Term) × IsCount (token ∷ tokens) count × (field ≡ Fill unit (Some count))

-- a unit, and a count where it isn't 1
abbrev pub IsFill : List Token → FieldForm → Type 0
IsFill [] field = ⊥
IsFill (token ∷ tokens) field = (unit : ℕ) × (unit_in token.shape ≡ Some unit) × IsFillOf unit tokens field

abbrev pub IsFillField : FieldFront → FieldForm → Type 0
IsFillField front field = (is_bare front ≡ true) × IsFill front.tail field

abbrev pub align_of : List Token → Option ℕ
align_of (token ∷ []) = align_unit (unit_in token.shape)
align_of tokens = None

abbrev pub IsAlignField : FieldFront → FieldForm → Type 0
IsAlignField front field = (unit : ℕ) × (is_bare front ≡ true) × (align_of front.tail ≡ Some unit) × (field ≡ Align unit)

-- Fields.

abbrev pub IsNumberField : NumForm → FieldFront → FieldForm → Type 0
IsNumberField form front field = (number : NumberForm) × IsNumber form front number × (field ≡ Number number)

-- by the word that says what the field is; texts stand in `rz_stmt_type`
abbrev pub IsFieldOf : FieldWord → FieldFront → FieldForm → Type 0
IsFieldOf (words.Number form) front field = IsNumberField form front field
IsFieldOf (words.Text form) front field = ⊥
IsFieldOf (words.Points rect) front field = IsPointsField rect front field
IsFieldOf words.Fill front field = IsFillField front field
IsFieldOf words.Align front field = IsAlignField front field

abbrev pub IsFieldFront : FieldFront → FieldForm → Type 0
IsFieldFront front field = IsFieldOf front.word front field
