-- In which slots of a table the declarations of each group stand, as it is held beside the slots. The declarations of a type
-- for one id are a group, and so are all its others, for ranges and for any id.
use Rattle.std.specs.Prelude.{◌≡◌, ℕ, ℤ, Bool, false, ◌==◌, ◌&&◌, List, [], Option, Some, None, Vec}
use Rattle.std.specs.HashMap.{get, HashMap}
use Rattle.std.specs.Option.{option_eq, option_map_or}
use Rattle.std.specs.Ordering.{int_eq}
use Rattle.rz_core.specs.declared.resource.OsType.{OsType}
pub use Rattle.rz_types_fields.specs.Positions.{positions}
use Rattle.rz_types_table.specs.declared.table.Scope.{Scope}
use Rattle.rz_types_table.specs.declared.table.Scope.TheVariants.{Any, Id, Range}

-- what stands in a slot passes; an empty slot doesn't
abbrev pub in_slot : {A : Type 0} → (A → Bool) → Option A → Bool
in_slot test None = false
in_slot test (Some x) = test x

-- Groups: the code of a type, and an id or none.

-- the id that a scope is for, if it is for one alone
abbrev pub id_of : Scope → Option ℤ
id_of (Id own) = Some own
id_of (Range first last) = None
id_of Any = None

abbrev pub group_of : OsType → Scope → ℕ × Option ℤ
group_of kind scope = (kind.code, id_of scope)

abbrev pub same_group : ℕ × Option ℤ → ℕ × Option ℤ → Bool
same_group one other = (one.0 == other.0) && option_eq int_eq one.1 other.1

-- the group in a slot is this one
abbrev pub of_group : ℕ × Option ℤ → Option (ℕ × Option ℤ) → Bool
of_group group = in_slot (λ own. same_group own group)

-- the positions that are held for a group
abbrev pub held : {A S : Type 0} → ℕ × Option ℤ → HashMap (ℕ × Option ℤ) (Vec ℕ A) S → List ℕ
held group places = option_map_or (λ own. own.items) (get same_group places group) []

-- for each group they are those of its declarations, by the groups of these, slot by slot
abbrev pub ArePlaced : {A S : Type 0} → List (Option (ℕ × Option ℤ)) → HashMap (ℕ × Option ℤ) (Vec ℕ A) S → Type 0
ArePlaced groups places = (group : ℕ × Option ℤ) → held group places ≡ positions (of_group group) groups
