-- The declarations of a table as contracts see them, one by one. A declaration stands in a slot, which is empty once the
-- declaration was taken out.
use Rattle.std.specs.Prelude.{◌≡◌, ◌<◌, ℕ, ℤ, Bool, true, false, List, map, length, take, slice_get, slice_index, Option, Some, option_map, option_to_list, MatchOption, flat_map}
use Rattle.std.specs.List.{list_any}
use Rattle.rz_types_table.specs.Positions.{group_of, of_group, positions}
use Rattle.rz_types_table.specs.Table.{Declaration}
use Rattle.rz_types.specs.Template.{template_of}
use Rattle.rz_types_table.specs.declared.table.Declared.{Declared}

abbrev pub declaration_of : Declared → Declaration
declaration_of declared = record { kind = declared.kind; scope = declared.scope; template = template_of declared.template }

-- what stands in slots, in order
abbrev pub standing : {A : Type 0} → List (Option A) → List A
standing slots = flat_map option_to_list slots

abbrev pub listed : List (Option Declared) → List Declaration
listed slots = map declaration_of (standing slots)

-- the group of a declaration: those of its type for its very id, or those of its type for ranges and for any id
abbrev pub own_group : Declared → ℕ × Option ℤ
own_group one = group_of one.kind one.scope

-- their groups, slot by slot
abbrev pub groups_of : List (Option Declared) → List (Option (ℕ × Option ℤ))
groups_of slots = map (option_map own_group) slots

-- the positions are those of the declarations of a group
abbrev pub AreOwn : ℕ × Option ℤ → List (Option Declared) → List ℕ → Type 0
AreOwn group slots own = own ≡ positions (of_group group) (groups_of slots)

-- which of the positions is that of the first declaration that passes, or that none passes
abbrev pub IsFirst : (Declaration → Bool) → List (Option Declared) → List ℕ → Option ℕ → Type 0
IsFirst test slots own found = MatchOption found (list_any test (listed slots) ≡ false)
    (λ index. (one : Declared) × (index < length own) × (slice_get slots (slice_index own index) ≡ Some (Some one))
    × (test (declaration_of one) ≡ true) × (list_any test (listed (take (slice_index own index) slots)) ≡ false))
