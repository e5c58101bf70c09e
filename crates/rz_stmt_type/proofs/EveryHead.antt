-- Of all tokens it is decided what stands before the fields of an array, which is shorter than the array.
use Rattle.std.proofs.Common.{◌≡◌, ◌⊎◌, inl, inr, ◌≤◌, Bool, true, false, if◌then◌else◌, List, [], ◌∷◌, length, Option, Some, None, refl, ap, arith}
use Rattle.std.proofs.Math.Decide.{map_dec}
use Rattle.std.specs.Prelude.{option_map}
use Rattle.rz_core.proofs.EveryCut.{both, is_nothing, one_of, some_of}
use Rattle.rz_core.proofs.Tests.{none_some}
use Rattle.rz_core.specs.declared.resource.Word.{Word}
use Rattle.rz_stmt_brackets.proofs.Short.{bracket_sizes}
use Rattle.rz_stmt_brackets.specs.Bracket.{IsBracketed}
use Rattle.rz_stmt_brackets.specs.Pieces.{Parted}
use Rattle.rz_stmt_brackets.specs.declared.bracket.Bracket.TheVariants.{Curly, Square}
use Rattle.rz_stmt_type.proofs.EveryFlat.{of_brackets}
use Rattle.rz_stmt_type.specs.Head.{bare, case_front, counted, is_colon, named, ArrayFront, CaseFront, IsArrayFront, IsBare, IsBraced, IsCounted, IsNamed}
use Rattle.rz_expr.proofs.OneTerm.{OneExpression}
use Rattle.rz_expr.specs.Constant.{IsConstant}
use Rattle.rz_stmt_fields.proofs.EveryTerm.{EveryExpression, EveryWithin}
use Rattle.rz_stmt_fields.proofs.EveryValue.{has_constant, HasTerm}
use Rattle.rz_stmt_fields.specs.Symbols.{name_in}
use Rattle.rz_lex.specs.declared.token.Token.{Token}

-- What they hold is shorter than arrays and cases.

pub braced_short : (tokens inside : List Token) → IsBraced tokens inside → length inside ≤ length tokens
braced_short tokens inside is = omega (arith, ap (λ (ts : List Token). length ts) is.3, bracket_sizes Curly tokens is.0 is.1)

named_short : (tokens : List Token) (front : ArrayFront) → IsNamed tokens front → length front.row ≤ length tokens
named_short [] front is = absurd is
named_short (token ∷ tokens) front is = omega (arith, ap (λ (f : ArrayFront). length f.row) is.4, braced_short tokens is.1 is.3)

pub front_short : (tokens : List Token) (front : ArrayFront) → IsArrayFront tokens front → length front.row ≤ length tokens
front_short tokens front (bare is) = omega (arith, ap (λ (f : ArrayFront). length f.row) is.2, braced_short tokens is.0 is.1)
front_short tokens front (named is) = named_short tokens front is
front_short tokens front (counted is) =
    omega (arith, ap (λ (f : ArrayFront). length f.row) is.6, braced_short is.0.behind is.2 is.5, bracket_sizes Square tokens is.0 is.3)

pub case_short : (piece : List Token) (front : CaseFront) → case_front piece ≡ Some front → length front.row ≤ length piece
case_short [] front is = absurd (none_some front is)
case_short (first ∷ []) front is = absurd (none_some front is)
case_short (first ∷ second ∷ row) front is = by (is_colon second.shape) (name_in first.shape) is
  where
    by : (colon : Bool) (name : Option Word) → (if colon then option_map (λ n. record { name = n; row = row }) name else None) ≡ Some front
        → length front.row ≤ length (first ∷ second ∷ row)
    by true (Some name) so = omega (arith, ap (λ (f : CaseFront). length f.row) (same so))
      where
        same : ◌≡◌ {A = Option CaseFront} (Some (record { name = name; row = row })) (Some front) → record { name = name; row = row } ≡ front
        same e = cc e
    by true None so = absurd (none_some front so)
    by false name so = absurd (none_some front so)

-- What stands before the fields of an array.

abbrev pub HasBraced : List Token → Type 0
HasBraced tokens = (inside : List Token) × IsBraced tokens inside

abbrev HasBare : List Token → Type 0
HasBare tokens = (front : ArrayFront) × IsBare tokens front

abbrev HasNamed : List Token → Type 0
HasNamed tokens = (front : ArrayFront) × IsNamed tokens front

abbrev HasCounted : List Token → Type 0
HasCounted tokens = (front : ArrayFront) × IsCounted tokens front

abbrev pub HasFront : List Token → Type 0
HasFront tokens = (front : ArrayFront) × IsArrayFront tokens front

module _ (one : OneExpression) (expression : EveryExpression) (within : EveryWithin) where
  pub has_braced : (tokens : List Token) → Dec (HasBraced tokens)
  has_braced tokens = map_dec to from (of_brackets within Curly tokens (λ parted. parted.behind ≡ []) (λ parted brackets. is_nothing parted.behind))
    where
      to : (parted : Parted) × IsBracketed Curly tokens parted × (parted.behind ≡ []) → HasBraced tokens
      to (parted, brackets, ends) = (parted.front, (parted, brackets, ends, refl))

      from : HasBraced tokens → (parted : Parted) × IsBracketed Curly tokens parted × (parted.behind ≡ [])
      from h = (h.1.0, h.1.1, h.1.2)

  has_bare : (tokens : List Token) → Dec (HasBare tokens)
  has_bare tokens = map_dec to from (has_braced tokens)
    where
      to : HasBraced tokens → HasBare tokens
      to row = (record { name = None; count = None; row = row.0 }, (row.0, row.1, refl))

      from : HasBare tokens → HasBraced tokens
      from h = (h.1.0, h.1.1)

  has_named : (tokens : List Token) → Dec (HasNamed tokens)
  has_named [] = no (λ h. h.1)
  has_named (token ∷ tokens) = map_dec to from (both (some_of (name_in token.shape)) (has_braced tokens))
    where
      to : ((name : Word) × (name_in token.shape ≡ Some name)) × HasBraced tokens → HasNamed (token ∷ tokens)
      to (name, row) = (record { name = Some name.0; count = None; row = row.0 }, (name.0, row.0, name.1, row.1, refl))

      from : HasNamed (token ∷ tokens) → ((name : Word) × (name_in token.shape ≡ Some name)) × HasBraced tokens
      from h = ((h.1.0, h.1.2), (h.1.1, h.1.3))

  has_counted : (tokens : List Token) → Dec (HasCounted tokens)
  has_counted tokens =
      map_dec to from (of_brackets within Square tokens (λ parted. HasTerm IsConstant parted.front × HasBraced parted.behind)
      (λ parted brackets. both (has_constant one expression parted.front) (has_braced parted.behind)))
    where
      to : (parted : Parted) × IsBracketed Square tokens parted × (HasTerm IsConstant parted.front × HasBraced parted.behind) → HasCounted tokens
      to (parted, brackets, (count, row)) =
          (record { name = None; count = Some count.0; row = row.0 }, (parted, count.0, row.0, brackets, count.1, row.1, refl))

      from : HasCounted tokens → (parted : Parted) × IsBracketed Square tokens parted × (HasTerm IsConstant parted.front × HasBraced parted.behind)
      from h = (h.1.0, h.1.3, ((h.1.1, h.1.4), (h.1.2, h.1.5)))

  pub has_front : (tokens : List Token) → Dec (HasFront tokens)
  has_front tokens = map_dec to from (one_of (has_bare tokens) (one_of (has_named tokens) (has_counted tokens)))
    where
      to : HasBare tokens ⊎ (HasNamed tokens ⊎ HasCounted tokens) → HasFront tokens
      to (inl h) = (h.0, bare h.1)
      to (inr (inl h)) = (h.0, named h.1)
      to (inr (inr h)) = (h.0, counted h.1)

      from : HasFront tokens → HasBare tokens ⊎ (HasNamed tokens ⊎ HasCounted tokens)
      from (front, bare is) = inl (front, is)
      from (front, named is) = inr (inl (front, is))
      from (front, counted is) = inr (inr (front, is))
