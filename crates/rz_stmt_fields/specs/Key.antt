-- Keys of cases. (MPW Rez.)
use Rattle.std.specs.Prelude.{◌≡◌, Bool, true, false, List, Option, Some, None}
use Rattle.rz_expr.specs.Constant.{is_constant}
use Rattle.rz_expr.specs.Term.{Term}
use Rattle.rz_lex.specs.declared.token.Token.{Token}
use Rattle.rz_stmt_fields.specs.FieldFront.{IsFront}
use Rattle.rz_stmt_fields.specs.FieldWord.{FieldFront}
use Rattle.rz_stmt_fields.specs.Form.{FieldForm, Number, NumberForm}
use Rattle.rz_stmt_fields.specs.NumberField.{IsNumber}
use Rattle.rz_stmt_fields.specs.declared.field_word.FieldWord.{FieldWord}
use Rattle.rz_stmt_fields.specs.declared.field_word.FieldWord.TheVariants as words
use Rattle.rz_types_fields.specs.Shape.{may_be_key}
use Rattle.rz_types_fields.specs.declared.field.NumForm.{NumForm}

-- a constant as the fixed value
abbrev pub is_key_value : Option Term → Bool
is_key_value None = false
is_key_value (Some term) = is_constant term

abbrev pub as_key : NumberForm → NumberForm
as_key number = record number { key = true }

-- a number with a constant as its fixed value
abbrev pub IsKeyNumber : NumForm → FieldFront → FieldForm → Type 0
IsKeyNumber form front field = (number : NumberForm) × IsNumber form front number × (is_key_value number.fixed ≡ true) × (field ≡ Number (as_key number))

-- of a type that a key may have
abbrev pub IsKeyOf : FieldWord → FieldFront → FieldForm → Type 0
IsKeyOf (words.Number form) front field = (may_be_key form ≡ true) × IsKeyNumber form front field
IsKeyOf word front field = ⊥

abbrev pub IsKeyFront : FieldFront → FieldForm → Type 0
IsKeyFront front field = IsKeyOf front.word front field

-- what stands after `key`
abbrev pub IsKey : List Token → FieldForm → Type 0
IsKey tokens field = (front : FieldFront) × IsFront tokens front × IsKeyFront front field
