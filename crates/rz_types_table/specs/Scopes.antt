-- What scopes say of each other.
use Rattle.std.specs.Prelude.{◌≡◌, ℤ, ℕ, nat_lt, Bool, false, ◌&&◌, ◌||◌, List, [], ◌∷◌}
use Rattle.rz_core.specs.declared.resource.OsType.{OsType}
use Rattle.rz_types_table.specs.Table.{has_place, is_any, is_for, is_id, is_range_of, Declaration}
use Rattle.rz_types_table.specs.declared.table.Scope.{Scope}
use Rattle.rz_types_table.specs.declared.table.Scope.TheVariants.{Any, Id, Range}

-- the id is one of those that the scope is for
abbrev pub holds : ℤ → Scope → Bool
holds id scope = is_id id scope || (is_range_of id scope || is_any scope)

-- the declaration is for this id of this type
abbrev pub concerns : OsType → ℤ → Declaration → Bool
concerns kind id one = is_for kind (holds id) one

-- a very id is narrower than a range, and a range than any id
abbrev pub breadth : Scope → ℕ
breadth (Id own) = 0
breadth (Range first last) = 1
breadth Any = 2

-- a declaration for the id that is narrower than this one of the same type
abbrev pub is_narrower_for : Declaration → ℤ → Declaration → Bool
is_narrower_for one id other = concerns one.kind id other && nat_lt (breadth other.scope) (breadth one.scope)

-- no two are of the same type and scope
abbrev pub PlacesDiffer : List Declaration → Type 0
PlacesDiffer [] = Unit {0}
PlacesDiffer (one ∷ table) = (has_place one.kind one.scope table ≡ false) × PlacesDiffer table
