-- Chosen resources and their new heads.
use Rattle.std.proofs.Common.{◌≡◌, ◌||◌, Bool, true, false, List, [], ◌∷◌, Option, Some, None, Ok, IsTrue, refl, subst}
use Rattle.std.specs.declared.result.Result.{Result}
use Rattle.rz_core.specs.Stop.{◌>>=◌}
use Rattle.rz_core.specs.declared.facts.Facts.{Facts}
use Rattle.rz_core.specs.declared.fault.Fault.{Fault}
use Rattle.rz_core.specs.declared.fault.Mark.{Mark}
use Rattle.rz_core.specs.declared.resource.OsType.{OsType}
use Rattle.rz_core.specs.declared.resource.Resource.{Resource}
use Rattle.rz_stmt_data.specs.Head.{Attribute, Head}
use Rattle.rz_set.specs.Change.{MayHaveId}
use Rattle.rz_set.specs.Choice.{is_for_one}
use Rattle.rz_set.specs.declared.pick.Pick.{Pick}
use Rattle.rz_set.specs.declared.pick.Pick.TheVariants.{All, Id, Range, Name}
use Rattle.rz_tools_values.specs.Head.{bits_behind_all}
use Rattle.rz_tools_values.specs.Chosen.{chosen_one}
use Rattle.rz_tools_work.specs.Pick.{as_type, new_attributes, new_head}
use Rattle.rz_tools_values.specs.declared.setting.Setting.{Setting}
use Rattle.rz_set.specs.declared.pick.Head as set

-- Attributes that are given.

pub given : (mark : Mark) (known : Facts) (attributes : List Attribute) → (attributes ≡ [] → ⊥)
    → new_attributes mark known attributes ≡ (bits_behind_all mark known 0 attributes >>= λ byte. Ok (Some byte))
given mark known [] some = absurd (some refl)
given mark known (attribute ∷ attributes) some = refl

-- A head with an id.

or_true : (b : Bool) → IsTrue (b || true)
or_true true = refl
or_true false = refl

chosen_alone : (mark : Mark) (kind : OsType) (pick : Pick) (list : List Resource) (r : Resource) (new : set.Head) → chosen_one mark kind pick list ≡ Ok (Some r) → MayHaveId pick new
chosen_alone mark kind All list r new is = absurd cc
chosen_alone mark kind (Id id) list r new is = refl
chosen_alone mark kind (Range first last) list r new is = absurd cc
chosen_alone mark kind (Name name) list r new is = refl

same_head : (one other : set.Head) → ◌≡◌ {A = Result set.Head Fault} (Ok one) (Ok other) → one ≡ other
same_head one other is = cc

-- has the resource that is chosen alone
pub may_have_id : (setting : Setting) (mark : Mark) (kind new_kind : OsType) (pick : Pick) (list : List Resource) (one : Option Resource) (head : Option Head) (new : set.Head)
    → chosen_one mark kind pick list ≡ Ok one → new_head setting mark new_kind one head ≡ Ok new → MayHaveId pick new
may_have_id setting mark kind new_kind pick list None head new chosen is = subst (MayHaveId pick) (same_head (as_type new_kind) new is) (or_true (is_for_one pick))
may_have_id setting mark kind new_kind pick list (Some r) head new chosen is = chosen_alone mark kind pick list r new chosen
