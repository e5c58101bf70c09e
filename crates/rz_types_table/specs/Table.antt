-- Declarations of types, in the order in which they were made, and which of them counts for an id. (MPW Rez.)
use Rattle.std.specs.Prelude.{ℤ, pos, int_le, Bool, true, false, ◌==◌, ◌&&◌, if◌then◌else◌, List, [], ◌∷◌, ◌++◌, Option, Some, None, option_map}
use Rattle.std.specs.List.{list_any}
use Rattle.std.specs.Option.{ok_or, unwrap_or}
use Rattle.std.specs.Ordering.{int_eq}
use Rattle.std.specs.declared.result.Result.{Result}
use Rattle.rz_core.specs.Lists.{or_else}
use Rattle.rz_core.specs.declared.fault.Kept.TheVariants.{Key}
use Rattle.rz_core.specs.declared.resource.OsType.{OsType}
use Rattle.rz_core.specs.declared.resource.Resource.{Resource}
use Rattle.rz_types_fields.specs.Field.{PlainBody}
use Rattle.rz_types.specs.declared.rules.TypeFault.{TypeFault}
use Rattle.rz_types_table.specs.declared.table.Scope.{Scope}
use Rattle.rz_types_table.specs.declared.table.Scope.TheVariants.{Any, Id, Range}

pub record Declaration : Type 0 where
  pub kind : OsType
  pub scope : Scope
  pub template : PlainBody

-- Places.

abbrev pub same_scope : Scope → Scope → Bool
same_scope (Id one) (Id other) = int_eq one other
same_scope (Range first last) (Range from to) = int_eq first from && int_eq last to
same_scope Any Any = true
same_scope scope other = false

-- the declaration is of this type and for this scope
abbrev pub stands_at : OsType → Scope → Declaration → Bool
stands_at kind scope one = (one.kind.code == kind.code) && same_scope one.scope scope

-- one of them is
abbrev pub has_place : OsType → Scope → List Declaration → Bool
has_place kind scope table = list_any (stands_at kind scope) table

-- the list without the first that passes
abbrev pub without : {A : Type 0} → (A → Bool) → List A → List A
without test [] = []
without test (x ∷ xs) = if test x then xs else x ∷ without test xs

-- the table after a declaration: it stands at the end, and one of its type and scope is no more there
abbrev pub declared_behind : List Declaration → Declaration → List Declaration
declared_behind table one = without (stands_at one.kind one.scope) table ++ one ∷ []

-- Ids.

-- a scope that is this very id, a range that holds it, and any id
abbrev pub is_id : ℤ → Scope → Bool
is_id id (Id own) = int_eq own id
is_id id scope = false

abbrev pub is_range_of : ℤ → Scope → Bool
is_range_of id (Range first last) = int_le first id && int_le id last
is_range_of id scope = false

abbrev pub is_any : Scope → Bool
is_any Any = true
is_any scope = false

abbrev pub is_for : OsType → (Scope → Bool) → Declaration → Bool
is_for kind test one = (one.kind.code == kind.code) && test one.scope

-- the last that passes
abbrev pub last_such : {A : Type 0} → (A → Bool) → List A → Option A
last_such test [] = None
last_such test (x ∷ xs) = or_else (last_such test xs) (if test x then Some x else None)

-- the last declaration of the type for this very id, else the last whose range holds it, else the last for any id
abbrev pub found : OsType → ℤ → List Declaration → Option Declaration
found kind id table =
    or_else (last_such (is_for kind (is_id id)) table)
    (or_else (last_such (is_for kind (is_range_of id)) table) (last_such (is_for kind is_any) table))

-- the fields that are declared there for a resource
abbrev pub declared_for : List Declaration → Resource → Option PlainBody
declared_for table r = option_map (λ one. one.template) (found r.kind r.id table)

-- with an id what is found for it, and without one the last declaration for any id
abbrev pub asked : OsType → Option ℤ → List Declaration → Option Declaration
asked kind (Some id) table = found kind id table
asked kind None table = last_such (is_for kind is_any) table

-- 239 for a type that isn't there
abbrev pub no_such_type : OsType → Option ℤ → TypeFault
no_such_type kind id = record { number = 239; field = 0; kept = Key kind (unwrap_or id (pos 0)) }

abbrev pub copied : OsType → Option ℤ → List Declaration → Result PlainBody TypeFault
copied kind id table = ok_or (option_map (λ one. one.template) (asked kind id table)) (no_such_type kind id)
