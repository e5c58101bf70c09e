-- The resources of an admitted fork stand type by type.
use Rattle.std.proofs.Common.{◌≡◌, ℕ, ◌==◌, if◌then◌else◌, Bool, true, false, List, [], ◌∷◌, ◌++◌, length, map, Option, Some, None, Ok, refl, sym, subst, ◌∙◌}
use Rattle.std.specs.List.{list_any, AllByRecursion}
use Rattle.rz_core.proofs.Lists.{or_else_none}
use Rattle.rz_core.specs.Lists.{first_in, unless_fault}
use Rattle.rz_fork.specs.declared.fault.ForkFault.{ForkFault}
use Rattle.rz_fork.specs.declared.layout.Outline.{Outline}
use Rattle.rz_fork.specs.declared.layout.Reference.{Reference}
use Rattle.rz_fork.specs.declared.layout.TypeEntry.{TypeEntry}
use Rattle.rz_fork.specs.Admit.{admitted, inadmissible}
use Rattle.rz_fork.specs.Code.{first_broken, lists_broken, map_fault}
use Rattle.rz_fork.specs.Contents.{attributes_of, contents, reserved_of, resource_of, resources, resources_of, Fork}
use Rattle.rz_fork.specs.Image.{grouped}
use Rattle.rz_fork.specs.Layout.{entries, header_of, references, the_outline, types_of}
use Rattle.rz_fork.specs.Rules.{fault, type_rule}
use Rattle.rz_fork.proofs.Breaking.{tested_is}
use Rattle.rz_fork.proofs.Holding.{lists_hold}
use Rattle.rz_fork.proofs.Keys.{unbroken}
use Rattle.rz_fork.proofs.Resources.{HasKind}
use Rattle.rz_laws.proofs.Blocks.{blocks_grouped, Apart}

module _ (bytes : List ℕ) (o : Outline) where
  references_own : (t : TypeEntry) (rs : List Reference) → AllByRecursion (HasKind t.code) (map (resource_of bytes o t) rs)
  unfolding resource_of
  references_own t [] = tt
  references_own t (r ∷ rs) = (refl, references_own t rs)

  types_apart : (seen ts : List TypeEntry) → first_in type_rule seen ts ≡ None → Apart (λ t. t.code) seen ts
  types_apart seen [] hold = tt
  types_apart seen (t ∷ ts) hold =
      let parts = or_else_none (type_rule seen t) (first_in type_rule (seen ++ t ∷ []) ts) hold in
      (unbroken (list_any (λ b. b.code == t.code) seen) (fault 410 t.place t.code) parts.0, types_apart (seen ++ t ∷ []) ts parts.1)

  resources_grouped : lists_broken bytes o ≡ None → grouped (resources bytes o) ≡ resources bytes o
  resources_grouped none =
      blocks_grouped (λ t. t.code) (resources_of bytes o) (λ t. references_own t (references bytes t)) (entries bytes o) (types_apart [] (entries bytes o) (lists_hold bytes o none).codes)

abbrev AreGrouped : Fork → Type 0
AreGrouped fork = grouped fork.list ≡ fork.list

-- what holds where no rule is broken holds too where there may be no bytes, which hold nothing
grouped_by : (empty : Bool) (broken : Option ForkFault) (fork : Fork) → (broken ≡ None → AreGrouped fork) → (if empty then None else broken) ≡ None
    → AreGrouped (if empty then record { list = []; attributes = 0; reserved = [] } else fork)
grouped_by true broken fork are none = refl
grouped_by false broken fork are none = are none

contents_grouped : (bytes : List ℕ) → inadmissible bytes ≡ None → AreGrouped (contents bytes)
unfolding contents
contents_grouped bytes none =
    let h = header_of bytes in
    let o = the_outline bytes in
    grouped_by (length bytes == 0) (first_broken bytes h (types_of bytes h) o)
    (record { list = resources bytes o; attributes = attributes_of bytes h; reserved = reserved_of bytes h })
    (λ unbroken. resources_grouped bytes o (or_else_none (map_fault bytes) (lists_broken bytes o) unbroken).1) (sym (tested_is bytes) ∙ none)

-- a value where there is no fault
unfaulted : (broken : Option ForkFault) (value fork : Fork) → unless_fault broken value ≡ Ok fork → (broken ≡ None) × (value ≡ fork)
unfaulted None value fork is = (refl, cc)
unfaulted (Some fault) value fork is = cc

pub admitted_grouped : (bytes : List ℕ) (fork : Fork) → admitted bytes ≡ Ok fork → grouped fork.list ≡ fork.list
admitted_grouped bytes fork is =
    let parts = unfaulted (inadmissible bytes) (contents bytes) fork is in
    subst AreGrouped parts.1 (contents_grouped bytes parts.0)
