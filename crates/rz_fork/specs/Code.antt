-- What the code of admission hands around, as the definitions see it.
use Rattle.std.specs.Prelude.{◌≡◌, ℕ, ◌+◌, ◌*◌, ◌≤◌, ◌==◌, Bool, false, if◌then◌else◌, List, [], ◌∷◌, get_or, length}
use Rattle.std.specs.List.{list_any}
use Rattle.std.specs.declared.option.Option.{Option}
use Rattle.std.specs.declared.option.Option.TheVariants.{None}
use Rattle.rz_core.specs.Lists.{first_in, first_of, or_else}
use Rattle.rz_fork.specs.declared.fault.ForkFault.{ForkFault}
use Rattle.rz_fork.specs.declared.layout.Header.{Header}
use Rattle.rz_fork.specs.declared.layout.Outline.{Outline}
use Rattle.rz_fork.specs.declared.layout.TypeEntry.{TypeEntry}
use Rattle.rz_fork.specs.declared.layout.Reference.{Reference}
use Rattle.rz_fork.specs.declared.rules.ReferenceRule.{ReferenceRule}
use Rattle.rz_fork.specs.declared.rules.ReferenceRule.TheVariants as rules
use Rattle.rz_fork.specs.Admit.{HasArea, HasTypes}
use Rattle.rz_fork.specs.Layout.{header_of, types_of, the_outline, entries, references}
use Rattle.rz_fork.specs.Rules.{data_area_outside, list_rule, map_outside, reference_rule, short_header, short_map, type_list_outside, type_rule, types_outside, Tested, Data, Name, Id}

-- what a rule of the code tests
abbrev pub tested_by : ReferenceRule → Tested
tested_by rules.Data = Data
tested_by rules.Name = Name

-- the ids of these references are marked, and no others
abbrev pub AreMarked : List Bool → List Reference → Type 0
AreMarked seen rs = (id : ℕ) → get_or seen id false ≡ list_any (λ r. r.id == id) rs

-- Rules one after the other.

-- the first broken rule on the header and the map
unfoldable pub map_broken : List ℕ → Header → ℕ → Outline → Option ForkFault
map_broken bytes h types o = first_of (
    short_header bytes
    ∷ data_area_outside bytes h
    ∷ map_outside bytes h
    ∷ short_map h
    ∷ type_list_outside h types
    ∷ types_outside o
    ∷ []
    )

-- the same of the header, type list and outline that the bytes have
abbrev pub map_fault : List ℕ → Option ForkFault
map_fault bytes = map_broken bytes (header_of bytes) (types_of bytes (header_of bytes)) (the_outline bytes)

-- the first reference of a type that breaks a rule
unfoldable pub in_type : Tested → List ℕ → Outline → TypeEntry → Option ForkFault
in_type tested bytes o t = first_in (reference_rule tested bytes o) [] (references bytes t)

-- the first reference of these types that does
abbrev pub in_types : Tested → List ℕ → Outline → List TypeEntry → Option ForkFault
in_types tested bytes o ts = first_in (λ before t. in_type tested bytes o t) [] ts

-- the first broken rule on types and references
unfoldable pub lists_broken : List ℕ → Outline → Option ForkFault
lists_broken bytes o = first_of (
    first_in (list_rule o) [] (entries bytes o)
    ∷ in_types Data bytes o (entries bytes o)
    ∷ in_types Name bytes o (entries bytes o)
    ∷ first_in type_rule [] (entries bytes o)
    ∷ in_types Id bytes o (entries bytes o)
    ∷ []
    )

-- the first broken rule of bytes that have this header, type list and outline
abbrev pub first_broken : List ℕ → Header → ℕ → Outline → Option ForkFault
first_broken bytes h types o = or_else (map_broken bytes h types o) (lists_broken bytes o)

-- the first broken rule of those that are tested one after the other; no bytes break none
abbrev pub first_tested : List ℕ → Option ForkFault
first_tested bytes =
    let h = header_of bytes in
    if length bytes == 0 then None else first_broken bytes h (types_of bytes h) (the_outline bytes)

-- no rule is broken
pub record IsAdmitted (bytes : List ℕ) (o : Outline) : Type 0 where
  pub outline : o ≡ the_outline bytes
  pub header : o.header ≡ header_of bytes
  pub types : HasTypes bytes o
  pub area : HasArea bytes o.header
  pub lists : lists_broken bytes o ≡ None

-- no rule on a type's list and references is broken
pub record HasResources (bytes : List ℕ) (o : Outline) (t : TypeEntry) : Type 0 where
  pub types : HasTypes bytes o
  pub area : HasArea bytes o.header
  pub list : t.list + 12 * t.count ≤ length bytes
  pub areas : in_type Data bytes o t ≡ None
  pub name_lists : in_type Name bytes o t ≡ None
