-- Of all tokens it is decided which field with no fields of its own they are.
use Rattle.std.proofs.Common.{◌≡◌, Bool, true, false, List, [], ◌∷◌, length, Option, Some, None, refl, arith}
use Rattle.std.proofs.Math.Decide.{map_dec}
use Rattle.rz_core.proofs.EveryCut.{both, is_true, known_of, known_with, some_of}
use Rattle.rz_core.proofs.Tests.{same_some}
use Rattle.rz_core.specs.Decided.{Decided}
use Rattle.rz_stmt_brackets.proofs.OneBracket.{one_bracketed}
use Rattle.rz_stmt_brackets.proofs.OneCut.{one_cut, some_pieces}
use Rattle.rz_stmt_brackets.specs.Bracket.{begins, IsBracketed}
use Rattle.rz_stmt_brackets.specs.Pieces.{AreCut, Parted}
use Rattle.rz_stmt_brackets.specs.declared.bracket.Bracket.{Bracket}
use Rattle.rz_stmt_brackets.specs.declared.bracket.Bracket.TheVariants.{Square}
use Rattle.rz_stmt_brackets.specs.declared.pieces.Divider.{Divider}
use Rattle.rz_stmt_data.specs.Texts as texts
use Rattle.rz_stmt_type.specs.Flat.{IsFixed, IsFlat, IsFlatBy, IsTextBy}
use Rattle.rz_expr.specs.Term.{Term}
use Rattle.rz_types_fields.specs.Field.{PlainText}
use Rattle.rz_types_fields.specs.Text.{PlainPart}
use Rattle.rz_types_fields.specs.declared.field.TextForm.{TextForm}
use Rattle.rz_types_fields.specs.declared.place.TextPlace.{TextPlace}
use Rattle.rz_types_fields.specs.declared.place.TextPlace.TheVariants.{Fixed}
use Rattle.rz_stmt_fields.proofs.EveryKey.{same_front}
use Rattle.rz_stmt_fields.proofs.EveryTerm.{EveryWithin}
use Rattle.rz_stmt_fields.specs.FieldForm.{IsFieldFront}
use Rattle.rz_stmt_fields.specs.FieldFront.{IsFront}
use Rattle.rz_stmt_fields.specs.FieldValue.{is_equals, IsSizeExpression}
use Rattle.rz_stmt_fields.specs.FieldWord.{hex_of, text_form, FieldFront}
use Rattle.rz_stmt_fields.specs.Form.{FieldForm, Text}
use Rattle.rz_lex.specs.declared.token.Token.{Token}

-- of all tokens it is decided which of these they are
abbrev pub Decides : {X : Type 0} → (List Token → X → Type 0) → Type 0
Decides {X} P = (tokens : List Token) → (answer : Option X) × Decided (P tokens) answer

-- Parts of tokens.

-- what is decided of the pieces
pub of_pieces : (divider : Divider) (tokens : List Token) (P : List (List Token) → Type 0)
    → ((pieces : List (List Token)) → AreCut divider tokens pieces → Dec (P pieces)) → Dec ((pieces : List (List Token)) × AreCut divider tokens pieces × P pieces)
of_pieces divider tokens P each =
    known_with (AreCut divider tokens) P (one_cut divider tokens) (yes (some_pieces divider (length tokens) tokens (omega arith))) each

module _ (within : EveryWithin) where
  -- what is decided of what stands in brackets, and after them
  pub of_brackets : (bracket : Bracket) (tokens : List Token) (P : Parted → Type 0)
      → ((parted : Parted) → IsBracketed bracket tokens parted → Dec (P parted)) → Dec ((parted : Parted) × IsBracketed bracket tokens parted × P parted)
  of_brackets bracket tokens P each =
      known_with (IsBracketed bracket tokens) P (one_bracketed bracket tokens) (known_of (IsBracketed bracket tokens) (within bracket tokens)) each

abbrev HasFixed : List Token → Type 0
HasFixed tokens = (fixed : Option (List PlainPart)) × IsFixed tokens fixed

abbrev HasSize : List Token → Type 0
HasSize tokens = (size : Term) × IsSizeExpression tokens size

abbrev HasTextBy : Bool → Bool → TextForm → List Token → Type 0
HasTextBy sized hex form tokens = (text : PlainText) × IsTextBy sized hex form tokens text

abbrev HasFlatBy : Option TextForm → FieldFront → Type 0
HasFlatBy form front = (field : FieldForm) × IsFlatBy form front field

abbrev pub HasFlat : List Token → Type 0
HasFlat tokens = (field : FieldForm) × IsFlat tokens field

module _ (within : EveryWithin) (text : (place : TextPlace) → Decides (texts.IsText place)) (front : Decides IsFront)
    (field : (front : FieldFront) → (answer : Option FieldForm) × Decided (IsFieldFront front) answer) (size : Decides IsSizeExpression) where
  -- Texts.

  is_fixed : (tokens : List Token) → Dec (HasFixed tokens)
  is_fixed [] = yes (None, refl)
  is_fixed (token ∷ tokens) = map_dec to from (both (is_true (is_equals token.shape)) (known_of (texts.IsText Fixed tokens) (text Fixed tokens)))
    where
      to : (is_equals token.shape ≡ true) × ((parts : List PlainPart) × texts.IsText Fixed tokens parts) → HasFixed (token ∷ tokens)
      to (equals, parts) = (Some parts.0, (parts.0, equals, parts.1, refl))

      from : HasFixed (token ∷ tokens) → (is_equals token.shape ≡ true) × ((parts : List PlainPart) × texts.IsText Fixed tokens parts)
      from h = (h.1.1, (h.1.0, h.1.2))

  text_by : (sized hex : Bool) (form : TextForm) (tokens : List Token) → Dec (HasTextBy sized hex form tokens)
  text_by true hex form tokens =
      map_dec to from (of_brackets within Square tokens (λ parted. HasSize parted.front × HasFixed parted.behind)
      (λ parted brackets. both (known_of (IsSizeExpression parted.front) (size parted.front)) (is_fixed parted.behind)))
    where
      to : (parted : Parted) × IsBracketed Square tokens parted × (HasSize parted.front × HasFixed parted.behind) → HasTextBy true hex form tokens
      to (parted, brackets, (sized, fixed)) =
          (record { form = form; hex = hex; size = Some sized.0; fixed = fixed.0 }, (parted, sized.0, fixed.0, brackets, sized.1, fixed.1, refl))

      from : HasTextBy true hex form tokens → (parted : Parted) × IsBracketed Square tokens parted × (HasSize parted.front × HasFixed parted.behind)
      from h = (h.1.0, h.1.3, ((h.1.1, h.1.4), (h.1.2, h.1.5)))
  text_by false hex form tokens = map_dec to from (is_fixed tokens)
    where
      to : HasFixed tokens → HasTextBy false hex form tokens
      to fixed = (record { form = form; hex = hex; size = None; fixed = fixed.0 }, (fixed.0, fixed.1, refl))

      from : HasTextBy false hex form tokens → HasFixed tokens
      from h = (h.1.0, h.1.1)

  -- Fields.

  flat_by : (form : Option TextForm) (front : FieldFront) → Dec (HasFlatBy form front)
  flat_by None front = known_of (IsFieldFront front) (field front)
  flat_by (Some form) front =
      map_dec to from (known_with (λ (hex : Bool). hex_of front.unsigned front.radix ≡ Some hex) HasText (same_some (hex_of front.unsigned front.radix))
      (some_of (hex_of front.unsigned front.radix)) (λ hex has. text_by (begins Square front.tail) hex form front.tail))
    where
      HasText : Bool → Type 0
      HasText hex = HasTextBy (begins Square front.tail) hex form front.tail

      to : (hex : Bool) × (hex_of front.unsigned front.radix ≡ Some hex) × HasText hex → HasFlatBy (Some form) front
      to (hex, has, is) = (Text is.0, (hex, is.0, has, is.1, refl))

      from : HasFlatBy (Some form) front → (hex : Bool) × (hex_of front.unsigned front.radix ≡ Some hex) × HasText hex
      from h = (h.1.0, h.1.2, (h.1.1, h.1.3))

  pub has_flat : (tokens : List Token) → Dec (HasFlat tokens)
  has_flat tokens =
      map_dec to from (known_with (IsFront tokens) (λ (f : FieldFront). HasFlatBy (text_form f.word) f) (same_front tokens) (known_of (IsFront tokens) (front tokens))
      (λ f is. flat_by (text_form f.word) f))
    where
      to : (f : FieldFront) × IsFront tokens f × HasFlatBy (text_form f.word) f → HasFlat tokens
      to (f, is, flat) = (flat.0, (f, is, flat.1))

      from : HasFlat tokens → (f : FieldFront) × IsFront tokens f × HasFlatBy (text_form f.word) f
      from h = (h.1.0, h.1.1, (h.0, h.1.2))
