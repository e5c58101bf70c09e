-- The resources that are shown: those whose types the words choose. (MPW DeRez.)
use Rattle.std.specs.Prelude.{◌==◌, ◌&&◌, ◌||◌, not, Bool, if◌then◌else◌, List, [], ◌∷◌, length}
use Rattle.std.specs.List.{list_any}
use Rattle.rz_core.specs.declared.resource.OsType.{OsType}
use Rattle.rz_core.specs.declared.resource.Resource.{Resource}

abbrev pub is_in : List OsType → OsType → Bool
is_in kinds kind = list_any (λ (one : OsType). one.code == kind.code) kinds

-- one of these where there are any, and none of those
abbrev pub is_chosen : List OsType → List OsType → OsType → Bool
is_chosen only skip kind = (length only == 0 || is_in only kind) && not (is_in skip kind)

-- the resources of the types that are chosen, in order
abbrev pub chosen : List OsType → List OsType → List Resource → List Resource
chosen only skip [] = []
chosen only skip (r ∷ rs) = if is_chosen only skip r.kind then r ∷ chosen only skip rs else chosen only skip rs
