-- Of each front of a field it is decided which field with no fields of its own it begins, of those that are no texts.
use Rattle.std.proofs.Common.{◌≡◌, ℕ, Bool, true, List, [], ◌∷◌, length, Option, Some, None, refl}
use Rattle.std.proofs.Math.Decide.{map_dec, ℕ_discrete}
use Rattle.rz_core.proofs.EveryCut.{answer_of, both, is_true, known_with, some_of}
use Rattle.rz_core.proofs.Tests.{same_some}
use Rattle.rz_core.specs.Decided.{Decided}
use Rattle.rz_expr.proofs.OneTerm.{OneExpression}
use Rattle.rz_expr.specs.Constant.{IsConstant}
use Rattle.rz_expr.specs.Term.{Term}
use Rattle.rz_lex.specs.declared.token.Token.{Token}
use Rattle.rz_stmt_brackets.specs.Bracket.{IsBracketed}
use Rattle.rz_stmt_brackets.specs.Pieces.{AreCut, Parted}
use Rattle.rz_stmt_brackets.specs.declared.bracket.Bracket.TheVariants.{Curly, Square}
use Rattle.rz_stmt_brackets.specs.declared.pieces.Divider.TheVariants.{Comma}
use Rattle.rz_stmt_fields.specs.Each.{AreEach}
use Rattle.rz_stmt_fields.specs.FieldForm.{align_of, count_of, is_bare, AreNumbers, IsAlignField, IsCount, IsFieldFront, IsFieldOf, IsFill, IsFillField, IsFillOf, IsNumberField, IsPoints, IsPointsField}
use Rattle.rz_stmt_fields.specs.FieldValue.{is_equals, IsFixedExpression}
use Rattle.rz_stmt_fields.specs.FieldWord.{unit_in, FieldFront}
use Rattle.rz_stmt_fields.specs.Form.{Align, FieldForm, Fill, Number, NumberForm, Points}
use Rattle.rz_stmt_fields.specs.NumberField.{IsNumber}
use Rattle.rz_stmt_fields.specs.declared.field_word.FieldWord.{FieldWord}
use Rattle.rz_stmt_fields.specs.declared.field_word.FieldWord.TheVariants as words
use Rattle.rz_stmt_fields.proofs.Each.{are_each}
use Rattle.rz_stmt_fields.proofs.EveryNumber.{has_number}
use Rattle.rz_stmt_fields.proofs.EveryTerm.{cut_with, within_with, EveryExpression, EveryWithin, SomePieces}
use Rattle.rz_stmt_fields.proofs.EveryValue.{has_constant, has_fixed_expression, HasTerm}
use Rattle.rz_stmt_fields.proofs.OneTerm.{OneCut, OneWithin}
use Rattle.rz_types_fields.specs.Field.{PlainPoints}
use Rattle.rz_types_fields.specs.declared.field.NumForm.{NumForm}

module _ (one : OneExpression) (expression : EveryExpression) (cut : OneCut) (some : SomePieces) (within : OneWithin) (bracket : EveryWithin) where
  -- Points and rectangles.

  module _ (rect : Bool) where
    abbrev HasNumbers : List Token → Type 0
    HasNumbers tokens = (terms : List Term) × AreNumbers rect tokens terms

    abbrev AreCounted : List (List Token) → Type 0
    AreCounted pieces = (length pieces ≡ count_of rect) × ((terms : List Term) × AreEach IsFixedExpression pieces terms)

    has_numbers : (tokens : List Token) → Dec (HasNumbers tokens)
    has_numbers tokens =
        map_dec to from (cut_with cut some Comma tokens AreCounted
        (λ pieces. both (ℕ_discrete (length pieces) (count_of rect)) (are_each IsFixedExpression (has_fixed_expression one expression) pieces)))
      where
        to : (pieces : List (List Token)) × AreCut Comma tokens pieces × AreCounted pieces → HasNumbers tokens
        to (pieces, are_cut, (count, (terms, are))) = (terms, (pieces, are_cut, count, are))

        from : HasNumbers tokens → (pieces : List (List Token)) × AreCut Comma tokens pieces × AreCounted pieces
        from (terms, (pieces, are_cut, count, are)) = (pieces, are_cut, (count, (terms, are)))

    abbrev HasPoints : List Token → Type 0
    HasPoints tokens = (points : PlainPoints) × IsPoints rect tokens points

    abbrev InCurly : List Token → Type 0
    InCurly tokens = (parted : Parted) × IsBracketed Curly tokens parted × ((length parted.behind ≡ 0) × HasNumbers parted.front)

    in_curly : (tokens : List Token) → Dec (InCurly tokens)
    in_curly tokens =
        within_with within bracket Curly tokens (λ parted. (length parted.behind ≡ 0) × HasNumbers parted.front)
        (λ parted. both (ℕ_discrete (length parted.behind) 0) (has_numbers parted.front))

    has_points : (tokens : List Token) → Dec (HasPoints tokens)
    has_points [] = yes (record { rect = rect; fixed = None }, refl)
    has_points (token ∷ tokens) = map_dec to from (both (is_true (is_equals token.shape)) (in_curly tokens))
      where
        to : (is_equals token.shape ≡ true) × InCurly tokens → HasPoints (token ∷ tokens)
        to (equals, (parted, brackets, (none, (terms, are)))) = (record { rect = rect; fixed = Some terms }, (parted, terms, equals, brackets, none, are, refl))

        from : HasPoints (token ∷ tokens) → (is_equals token.shape ≡ true) × InCurly tokens
        from (points, (parted, terms, equals, brackets, none, are, so)) = (equals, (parted, brackets, (none, (terms, are))))

    has_points_field : (front : FieldFront) → Dec ((field : FieldForm) × IsPointsField rect front field)
    has_points_field front = map_dec to from (both (is_true (is_bare front)) (has_points front.tail))
      where
        to : (is_bare front ≡ true) × HasPoints front.tail → (field : FieldForm) × IsPointsField rect front field
        to (bare, points) = (Points points.0, (points.0, bare, points.1, refl))

        from : (field : FieldForm) × IsPointsField rect front field → (is_bare front ≡ true) × HasPoints front.tail
        from h = (h.1.1, (h.1.0, h.1.2))

  -- Filling.

  abbrev InSquare : List Token → Type 0
  InSquare tokens = (parted : Parted) × IsBracketed Square tokens parted × ((length parted.behind ≡ 0) × HasTerm IsConstant parted.front)

  has_count : (tokens : List Token) → Dec (HasTerm IsCount tokens)
  has_count tokens =
      map_dec to from (within_with within bracket Square tokens (λ parted. (length parted.behind ≡ 0) × HasTerm IsConstant parted.front)
      (λ parted. both (ℕ_discrete (length parted.behind) 0) (has_constant one expression parted.front)))
    where
      to : InSquare tokens → HasTerm IsCount tokens
      to (parted, brackets, (none, (count, is))) = (count, (parted, brackets, none, is))

      from : HasTerm IsCount tokens → InSquare tokens
      from (count, (parted, brackets, none, is)) = (parted, brackets, (none, (count, is)))

  abbrev HasFillOf : ℕ → List Token → Type 0
  HasFillOf unit tokens = (field : FieldForm) × IsFillOf unit tokens field

  has_fill_of : (unit : ℕ) (tokens : List Token) → Dec (HasFillOf unit tokens)
  has_fill_of unit [] = yes (Fill unit None, refl)
  has_fill_of unit (token ∷ tokens) = map_dec to from (has_count (token ∷ tokens))
    where
      to : HasTerm IsCount (token ∷ tokens) → HasFillOf unit (token ∷ tokens)
      to count = (Fill unit (Some count.0), (count.0, count.1, refl))

      from : HasFillOf unit (token ∷ tokens) → HasTerm IsCount (token ∷ tokens)
      from h = (h.1.0, h.1.1)

  abbrev HasFill : List Token → Type 0
  HasFill tokens = (field : FieldForm) × IsFill tokens field

  has_fill : (tokens : List Token) → Dec (HasFill tokens)
  has_fill [] = no (λ h. h.1)
  has_fill (token ∷ tokens) =
      map_dec to from (known_with (λ unit. unit_in token.shape ≡ Some unit) (λ unit. HasFillOf unit tokens) (same_some (unit_in token.shape))
      (some_of (unit_in token.shape)) (λ unit is. has_fill_of unit tokens))
    where
      to : (unit : ℕ) × (unit_in token.shape ≡ Some unit) × HasFillOf unit tokens → HasFill (token ∷ tokens)
      to (unit, is, (field, fill)) = (field, (unit, is, fill))

      from : HasFill (token ∷ tokens) → (unit : ℕ) × (unit_in token.shape ≡ Some unit) × HasFillOf unit tokens
      from (field, (unit, is, fill)) = (unit, is, (field, fill))

  has_fill_field : (front : FieldFront) → Dec ((field : FieldForm) × IsFillField front field)
  has_fill_field front = map_dec to from (both (is_true (is_bare front)) (has_fill front.tail))
    where
      to : (is_bare front ≡ true) × HasFill front.tail → (field : FieldForm) × IsFillField front field
      to (bare, fill) = (fill.0, (bare, fill.1))

      from : (field : FieldForm) × IsFillField front field → (is_bare front ≡ true) × HasFill front.tail
      from h = (h.1.0, (h.0, h.1.1))

  has_align_field : (front : FieldFront) → Dec ((field : FieldForm) × IsAlignField front field)
  has_align_field front = map_dec to from (both (is_true (is_bare front)) (some_of (align_of front.tail)))
    where
      to : (is_bare front ≡ true) × ((unit : ℕ) × (align_of front.tail ≡ Some unit)) → (field : FieldForm) × IsAlignField front field
      to (bare, unit) = (Align unit.0, (unit.0, bare, unit.1, refl))

      from : (field : FieldForm) × IsAlignField front field → (is_bare front ≡ true) × ((unit : ℕ) × (align_of front.tail ≡ Some unit))
      from h = (h.1.1, (h.1.0, h.1.2))

  -- Fields.

  has_number_field : (form : NumForm) (front : FieldFront) → Dec ((field : FieldForm) × IsNumberField form front field)
  has_number_field form front = map_dec to from (has_number one expression cut some within bracket form front)
    where
      to : (number : NumberForm) × IsNumber form front number → (field : FieldForm) × IsNumberField form front field
      to number = (Number number.0, (number.0, number.1, refl))

      from : (field : FieldForm) × IsNumberField form front field → (number : NumberForm) × IsNumber form front number
      from h = (h.1.0, h.1.1)

  has_field_of : (word : FieldWord) (front : FieldFront) → Dec ((field : FieldForm) × IsFieldOf word front field)
  has_field_of (words.Number form) front = has_number_field form front
  has_field_of (words.Text form) front = no (λ h. h.1)
  has_field_of (words.Points rect) front = has_points_field rect front
  has_field_of words.Fill front = has_fill_field front
  has_field_of words.Align front = has_align_field front

  pub every_field : (front : FieldFront) → (answer : Option FieldForm) × Decided (IsFieldFront front) answer
  every_field front = answer_of (IsFieldFront front) (has_field_of front.word front)
