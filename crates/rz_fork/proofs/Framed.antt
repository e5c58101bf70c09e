-- When no rule on the header and the map is broken.
use Rattle.std.proofs.Common.{◌≡◌, ℕ, ◌+◌, ◌*◌, ◌<◌, ◌≤◌, ◌==◌, if◌then◌else◌, nat_lt, Bool, false, Some, None, sym, ap, ◌∙◌, arith, length, List}
use Rattle.std.proofs.lemmas.Bool.Decides.{nat_tests}
use Rattle.std.proofs.lemmas.Option.{none-some}
use Rattle.rz_core.proofs.Tests.{by_test}
use Rattle.rz_core.specs.Lists.{or_else}
use Rattle.rz_core.proofs.Lists.{or_else_none}
use Rattle.rz_core.specs.Numbers.{kept_length}
use Rattle.rz_core.specs.declared.resource.Resource.{Resource}
use Rattle.rz_fork.specs.declared.fault.LimitFault.{LimitFault}
use Rattle.rz_fork.specs.declared.layout.Header.{Header}
use Rattle.rz_fork.specs.declared.layout.Outline.{Outline}
use Rattle.rz_fork.specs.Image.{kinds_of, grouped, data_area, name_list, lists_end, passed, first_limit}
use Rattle.rz_fork.specs.Rules.{short_header, data_area_outside, map_outside, short_map, type_list_outside, types_outside}
use Rattle.rz_fork.specs.Code.{map_broken, lists_broken, first_broken}

-- within the limits of an image
pub record IsWithinLimits (list : List Resource) : Type 0 where
  pub area : length (data_area (grouped list)) ≤ 16777216
  pub lists : lists_end (length (kinds_of list)) (length (grouped list)) ≤ 65535
  pub names : length (name_list (grouped list)) ≤ 65535

not_passed : (number limit size : ℕ) → passed number limit size ≡ None → size ≤ limit
not_passed number limit size none =
    by_test _ (nat_lt limit size)
    (λ is. absurd (none-some (fault_of size) (sym none ∙ ap (λ (b : Bool). if b then Some (fault_of size) else None) is)))
    small
  where
    fault_of : ℕ → LimitFault
    fault_of size = record { number = number; length = kept_length size }

    small : nat_lt limit size ≡ false → size ≤ limit
    small is = grind (arith, nat_tests)

pub within_limits : (list : List Resource) → first_limit list ≡ None → IsWithinLimits list
within_limits list none =
    let kinds = length (kinds_of list) in
    let rs = grouped list in
    let names_passed = passed 304 65535 (length (name_list rs)) in
    let lists_passed = passed 303 65535 (lists_end kinds (length rs)) in
    let area_passed = passed 302 16777216 (length (data_area rs)) in
    let first = or_else_none area_passed (or_else lists_passed (or_else names_passed None)) none in
    let second = or_else_none lists_passed (or_else names_passed None) first.1 in
    let third = or_else_none names_passed None second.1 in
    record {
      area = not_passed 302 16777216 (length (data_area rs)) first.0;
      lists = not_passed 303 65535 (lists_end kinds (length rs)) second.0;
      names = not_passed 304 65535 (length (name_list rs)) third.0;
    }

-- what the rules on the header and the map ask
pub record IsFramed (bytes : List ℕ) (h : Header) (o : Outline) : Type 0 where
  pub long : 16 ≤ length bytes
  pub data_at : h.data_at < 16777216
  pub data_end : h.data_at + h.data_length ≤ length bytes
  pub map_end : h.map_at + h.map_length ≤ length bytes
  pub map_long : 28 ≤ h.map_length
  pub header : o.header.map_length ≡ h.map_length
  pub types_end : o.types + 2 + 8 * o.count ≤ h.map_length
  pub few : o.count ≤ 8192

module _ (bytes : List ℕ) (h : Header) (o : Outline) (framed : IsFramed bytes h o) where
  pub some_bytes : (length bytes == 0) ≡ false
  some_bytes = let long = framed.long in grind (arith, nat_tests)

  long_header : short_header bytes ≡ None
  unfolding short_header
  long_header = grind (arith, nat_tests)

  area_inside : data_area_outside bytes h ≡ None
  unfolding data_area_outside
  area_inside = grind (arith, nat_tests)

  map_inside : map_outside bytes h ≡ None
  unfolding map_outside
  map_inside = grind (arith, nat_tests)

  long_map : short_map h ≡ None
  unfolding short_map
  long_map = grind (arith, nat_tests)

  type_list_inside : type_list_outside h o.types ≡ None
  unfolding type_list_outside
  type_list_inside = grind (arith, nat_tests)

  types_inside : types_outside o ≡ None
  unfolding types_outside
  types_inside = grind (arith, nat_tests)

  map_holds : map_broken bytes h o.types o ≡ None
  unfolding map_broken
  map_holds =
      λ i. or_else (long_header i) (or_else (area_inside i) (or_else (map_inside i) (or_else (long_map i) (or_else (type_list_inside i) (or_else (types_inside i) None)))))

  -- then the first broken rule is one on types and references
  pub first_is : first_broken bytes h o.types o ≡ lists_broken bytes o
  first_is = ap (λ f. or_else f (lists_broken bytes o)) map_holds
