-- What is known at a place with the labels that are near.
use Rattle.std.proofs.Common.{◌≡◌, ℕ, ℤ, pos, negsuc, Bool, false, List, length, Option, Some, None, refl, sym, ap, ◌∙◌}
use Rattle.std.specs.Prelude.{nat_le, option_map}
use Rattle.rz_core.proofs.Lists.{or_else_none}
use Rattle.rz_core.specs.Lists.{or_else}
use Rattle.rz_core.specs.declared.facts.Facts.{Facts}
use Rattle.rz_expr.specs.Environment.{Environment, IsPartOf, Key}
use Rattle.rz_types_fields.specs.Field.{field_and, PlainBody, PlainField}
use Rattle.rz_types_fields.specs.Passed.{is_near, Names}
use Rattle.rz_unlay_pieces.specs.Ahead.{in_resource, near_place, place_within}
use Rattle.rz_unlay_pieces.specs.Pieces.{here_at, with_near, Here}
use Rattle.rz_unlay.proofs.Near.{in_resource_is, near_some}
use Rattle.rz_unlay.proofs.ReadsTests.{by_case, if_some, mapped, none_is}
use Rattle.rz_unlay.proofs.SpelledNames.{NearIn, NearShort}

-- a name that has no value there has none without the labels
pub near_keeps : (here : Here) (names : Environment) (key : Key) → (with_near here names).give key ≡ None → names.give key ≡ None
near_keeps here names key none = (or_else_none (names.give key) _ none).0

-- a place in the resource is one
pub resource_place : (len : ℕ) (value : Option ℤ) (x : ℤ) → in_resource len value ≡ Some x → value ≡ Some x
resource_place len None x is = absurd (none_is x is)
resource_place len (Some (pos place)) x is =
    let it = mapped (λ p. pos p) (place_within len (Some (pos place))) x is in
    let same = if_some (nat_le place len) place it.0 it.1 in
    ap (λ (p : ℕ). Some (pos p)) same.1 ∙ ap (λ (v : ℤ). Some v) it.2
resource_place len (Some (negsuc n)) x is = absurd (none_is x is)

module _ (facts : Facts) (all : List Bool) (field : PlainField) (rest : PlainBody) (first : ℕ) (met : Names) where
  abbrev here : Here
  here = here_at facts all field rest first met

  -- a finished name is that of the labels too
  pub with_part : (names env : Environment) → IsPartOf names env → NearIn all (field_and field rest) first env → IsPartOf (with_near here names) env
  with_part names env part near = record { give = λ key x is. by key x (names.give key) refl is }
    where
      of_label : (key : Key) (x : ℤ) (place : Option ℕ) → near_place (field_and field rest) first key ≡ place → in_resource (length all) (option_map (λ p. pos p) place) ≡ Some x → env.give key ≡ Some x
      of_label key x None so is = absurd (none_is x is)
      of_label key x (Some place) so is = (near key place so).0 ∙ resource_place (length all) (Some (pos place)) x is

      by : (key : Key) (x : ℤ) (known : Option ℤ) → names.give key ≡ known
          → or_else known (in_resource (length all) (option_map (λ p. pos p) (near_place (field_and field rest) first key))) ≡ Some x → env.give key ≡ Some x
      by key x (Some y) so is = part.give key x (so ∙ is)
      by key x None so is = of_label key x (near_place (field_and field rest) first key) refl is

  -- a name without a value isn't near
  pub absent_far : NearShort all (field_and field rest) first → (names : Environment) (key : Key) → (with_near here names).give key ≡ None → is_near (field_and field rest) key ≡ false
  absent_far near names key none =
      by_case (is_near (field_and field rest) key)
      (λ is.
      let it = near_some (field_and field rest) key first is in
      let place : ℕ = it.0 in
      let has : in_resource (length all) (option_map (λ p. pos p) (near_place (field_and field rest) first key)) ≡ Some (pos place) =
      ap (λ (p : Option ℕ). in_resource (length all) (option_map (λ q. pos q) p)) it.1
      ∙ in_resource_is (length all) place (near key place it.1) in
      absurd (none_is (pos place) (sym (or_else_none (names.give key) _ none).1 ∙ has)))
      (λ far. far)
