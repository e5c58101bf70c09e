-- What the statements `change` and `delete` leave of the list of resources, or their first fault. (MPW Rez.)
use Rattle.std.specs.Prelude.{ℕ, if◌then◌else◌, List, Some, Ok, Err}
use Rattle.std.specs.declared.result.Result.{Result}
use Rattle.rz_core.specs.Stop.{◌>>=◌}
use Rattle.rz_core.specs.declared.fault.Fault.{Fault}
use Rattle.rz_core.specs.declared.fault.Kept.TheVariants.{Nothing}
use Rattle.rz_core.specs.declared.fault.Mark.{Mark}
use Rattle.rz_core.specs.declared.resource.OsType.{OsType}
use Rattle.rz_core.specs.declared.resource.Resource.{Resource}
use Rattle.rz_stmt_lists.specs.Change.{Change}
use Rattle.rz_stmt_lists.specs.Delete.{Delete}
use Rattle.rz_stmt_lists.specs.Pick as said
use Rattle.rz_set.specs.After.{after_remove}
use Rattle.rz_set.specs.Change.{after_change}
use Rattle.rz_set.specs.declared.pick.Pick.{Pick}
use Rattle.rz_tools_values.specs.Head.{head_facts}
use Rattle.rz_tools_values.specs.Chosen.{chosen_one, sought_by}
use Rattle.rz_tools_work.specs.Pick.{new_head, picked}
use Rattle.rz_tools_work.specs.Put.{on_set}
use Rattle.rz_tools_work.specs.declared.renaming.Renamed.{Renamed}
use Rattle.rz_tools_values.specs.declared.setting.Setting.{Setting}

-- 205: the resources of a file that is begun anew aren't changed or deleted
abbrev pub not_appending : Mark → Fault
not_appending mark = record { number = 205; mark = Some mark; kept = Nothing }

abbrev pub appending : Setting → Mark → Result (Unit {0}) Fault
appending setting mark = if setting.append then Ok tt else Err (not_appending mark)

-- the pick of such a statement
abbrev pub pick_to_change : Setting → Mark → ℕ → said.Pick → Result Pick Fault
pick_to_change setting mark code pick = appending setting mark >>= λ _. picked mark (head_facts setting code) pick

-- `change`: the pick, and what the resources become that it chooses
abbrev pub change_said : Setting → Mark → List Resource → Change → Result Renamed Fault
change_said setting mark list one =
    pick_to_change setting mark one.kind one.pick
    >>= λ pick. chosen_one mark (record { code = one.kind }) pick list
    >>= λ found. new_head setting mark (record { code = one.new_kind }) found one.head
    >>= λ head. Ok (record { pick = pick; head = head })

abbrev pub list_changed : Setting → Mark → List Resource → OsType → Renamed → Result (List Resource) Fault
list_changed setting mark list kind said = on_set mark (sought_by kind said.pick) (after_change kind said.pick said.head setting.over list)

abbrev pub list_changing : Setting → Mark → List Resource → Change → Result (List Resource) Fault
list_changing setting mark list one = change_said setting mark list one >>= list_changed setting mark list (record { code = one.kind })

-- `delete`
abbrev pub list_without : Setting → Mark → List Resource → OsType → Pick → Result (List Resource) Fault
list_without setting mark list kind pick = on_set mark (sought_by kind pick) (after_remove kind pick setting.over list)

abbrev pub list_deleting : Setting → Mark → List Resource → Delete → Result (List Resource) Fault
list_deleting setting mark list one = pick_to_change setting mark one.kind one.pick >>= list_without setting mark list (record { code = one.kind })
