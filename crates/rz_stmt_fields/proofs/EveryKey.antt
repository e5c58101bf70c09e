-- Of all tokens it is decided which front of a field they have, and which key of a case they are.
use Rattle.std.proofs.Common.{◌≡◌, true, false, List, Option, Some, None, refl}
use Rattle.std.proofs.Math.Decide.{map_dec}
use Rattle.rz_core.proofs.EveryCut.{answer_of, both, is_true, known_with, some_of}
use Rattle.rz_core.proofs.Tests.{same_some}
use Rattle.rz_core.specs.Decided.{Decided}
use Rattle.rz_expr.proofs.OneTerm.{OneExpression}
use Rattle.rz_lex.specs.declared.token.Token.{Token}
use Rattle.rz_stmt_fields.specs.FieldFront.{IsFront}
use Rattle.rz_stmt_fields.specs.FieldWord.{front_in, FieldFront}
use Rattle.rz_stmt_fields.specs.Form.{FieldForm, Number, NumberForm}
use Rattle.rz_stmt_fields.specs.Key.{as_key, is_key_value, IsKey, IsKeyFront, IsKeyNumber, IsKeyOf}
use Rattle.rz_stmt_fields.specs.NumberField.{IsNumber}
use Rattle.rz_stmt_fields.specs.declared.field_word.FieldWord.{FieldWord}
use Rattle.rz_stmt_fields.specs.declared.field_word.FieldWord.TheVariants as words
use Rattle.rz_stmt_fields.proofs.EveryNumber.{has_number}
use Rattle.rz_stmt_fields.proofs.EveryTerm.{EveryExpression, EveryWithin, SomePieces}
use Rattle.rz_stmt_fields.proofs.Fronts.{fronts}
use Rattle.rz_stmt_fields.proofs.OneNumber.{one_number}
use Rattle.rz_stmt_fields.proofs.OneTerm.{OneCut, OneWithin}
use Rattle.rz_types_fields.specs.Shape.{may_be_key}
use Rattle.rz_types_fields.specs.declared.field.NumForm.{NumForm}

-- Fronts.

has_front : (tokens : List Token) → Dec ((front : FieldFront) × IsFront tokens front)
has_front tokens = map_dec to from (some_of (front_in false None tokens))
  where
    to : (front : FieldFront) × (front_in false None tokens ≡ Some front) → (front : FieldFront) × IsFront tokens front
    to h = (h.0, (fronts tokens h.0).0 h.1)

    from : (front : FieldFront) × IsFront tokens front → (front : FieldFront) × (front_in false None tokens ≡ Some front)
    from h = (h.0, (fronts tokens h.0).1 h.1)

pub same_front : (tokens : List Token) (a b : FieldFront) → IsFront tokens a → IsFront tokens b → a ≡ b
same_front tokens a b is also = same_some (front_in false None tokens) a b ((fronts tokens a).1 is) ((fronts tokens b).1 also)

pub every_front : (tokens : List Token) → (answer : Option FieldFront) × Decided (IsFront tokens) answer
every_front tokens = answer_of (IsFront tokens) (has_front tokens)

-- Keys.

module _ (one : OneExpression) (expression : EveryExpression) (cut : OneCut) (some : SomePieces) (within : OneWithin) (bracket : EveryWithin) where
  module _ (form : NumForm) (front : FieldFront) where
    abbrev HasKeyNumber : Type 0
    HasKeyNumber = (field : FieldForm) × IsKeyNumber form front field

    has_key_number : Dec HasKeyNumber
    has_key_number =
        map_dec to from (known_with (IsNumber form front) (λ number. is_key_value number.fixed ≡ true) (one_number one cut within form front)
        (has_number one expression cut some within bracket form front) (λ number is. is_true (is_key_value number.fixed)))
      where
        to : (number : NumberForm) × IsNumber form front number × (is_key_value number.fixed ≡ true) → HasKeyNumber
        to (number, is, value) = (Number (as_key number), (number, is, value, refl))

        from : HasKeyNumber → (number : NumberForm) × IsNumber form front number × (is_key_value number.fixed ≡ true)
        from (field, (number, is, value, so)) = (number, is, value)

  has_key_of : (word : FieldWord) (front : FieldFront) → Dec ((field : FieldForm) × IsKeyOf word front field)
  has_key_of (words.Number form) front = map_dec to from (both (is_true (may_be_key form)) (has_key_number form front))
    where
      to : (may_be_key form ≡ true) × HasKeyNumber form front → (field : FieldForm) × IsKeyOf (words.Number form) front field
      to (may, key) = (key.0, (may, key.1))

      from : (field : FieldForm) × IsKeyOf (words.Number form) front field → (may_be_key form ≡ true) × HasKeyNumber form front
      from h = (h.1.0, (h.0, h.1.1))
  has_key_of word front = no (λ h. h.1)

  abbrev HasKeyFront : FieldFront → Type 0
  HasKeyFront front = (field : FieldForm) × IsKeyFront front field

  has_key : (tokens : List Token) → Dec ((field : FieldForm) × IsKey tokens field)
  has_key tokens = map_dec to from (known_with (IsFront tokens) HasKeyFront (same_front tokens) (has_front tokens) (λ front is. has_key_of front.word front))
    where
      to : (front : FieldFront) × IsFront tokens front × HasKeyFront front → (field : FieldForm) × IsKey tokens field
      to (front, is, (field, key)) = (field, (front, is, key))

      from : (field : FieldForm) × IsKey tokens field → (front : FieldFront) × IsFront tokens front × HasKeyFront front
      from (field, (front, is, key)) = (front, is, (field, key))

  pub every_key : (tokens : List Token) → (answer : Option FieldForm) × Decided (IsKey tokens) answer
  every_key tokens = answer_of (IsKey tokens) (has_key tokens)
