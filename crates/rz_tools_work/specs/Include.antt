-- What an `include` statement leaves of the list of resources, or its first fault. (MPW Rez.)
use Rattle.std.specs.Prelude.{ℕ, List, Option, None, Some, Ok}
use Rattle.std.specs.declared.result.Result.{Result}
use Rattle.rz_core.specs.Stop.{◌>>=◌}
use Rattle.rz_core.specs.declared.fault.Fault.{Fault}
use Rattle.rz_core.specs.declared.fault.Kept.TheVariants.{Nothing}
use Rattle.rz_core.specs.declared.fault.Mark.{Mark}
use Rattle.rz_core.specs.declared.resource.OsType.{OsType}
use Rattle.rz_core.specs.declared.resource.Resource.{Resource}
use Rattle.rz_bridge_files.specs.Contents.{admit_fork}
use Rattle.rz_stmt_lists.specs.Include.{Include, Part}
use Rattle.rz_set.specs.After.{after_include}
use Rattle.rz_set.specs.declared.pick.Choice.{Choice}
use Rattle.rz_set.specs.declared.pick.Head.{Head}
use Rattle.rz_set.specs.declared.pick.Pick.{Pick}
use Rattle.rz_tools_values.specs.Around.{Around}
use Rattle.rz_tools_values.specs.Head.{head_facts}
use Rattle.rz_tools_values.specs.Chosen.{chosen_one, sought_by}
use Rattle.rz_tools_work.specs.Pick.{new_head, picked}
use Rattle.rz_tools_work.specs.Put.{on_set}
use Rattle.rz_tools_work.specs.declared.include.Asked.{Asked}
use Rattle.rz_tools_values.specs.declared.setting.Setting.{Setting}
use Rattle.rz_stmt_lists.specs.Include as include
use Rattle.rz_set.specs.declared.pick.Choice.TheVariants as choices
use Rattle.rz_tools_values.specs.Files.{list_named}

-- which resources of a file are put, under which head, and what is kept where there is none
abbrev pub all_of : Choice → Asked
all_of choice = record { choice = choice; head = None; sought = Nothing }

abbrev pub asked_for : OsType → Pick → Option Head → Asked
asked_for kind pick head = record { choice = choices.Chosen kind pick; head = head; sought = sought_by kind pick }

abbrev pub asked_by : Setting → Mark → List Resource → Part → Result Asked Fault
asked_by setting mark source include.All = Ok (all_of choices.All)
asked_by setting mark source (include.Not code) = Ok (all_of (choices.Except (record { code = code })))
asked_by setting mark source (include.Chosen code pick) =
    picked mark (head_facts setting code) pick >>= λ pick. Ok (asked_for (record { code = code }) pick None)
asked_by setting mark source (include.Renamed code pick new_code head) =
    picked mark (head_facts setting code) pick
    >>= λ pick. chosen_one mark (record { code = code }) pick source
    >>= λ one. new_head setting mark (record { code = new_code }) one head
    >>= λ head. Ok (asked_for (record { code = code }) pick (Some head))

-- the resources of a file that are asked for are put
abbrev pub list_with_asked : Setting → Mark → List Resource → List Resource → Asked → Result (List Resource) Fault
list_with_asked setting mark list source asked = on_set mark asked.sought (after_include source asked.choice asked.head setting.over list)

abbrev pub included : Setting → Mark → List Resource → Part → List Resource → Result (List Resource) Fault
included setting mark list part source = asked_by setting mark source part >>= list_with_asked setting mark list source

abbrev pub list_including : Around → Mark → List Resource → Include → Result (List Resource) Fault
list_including around mark list one = list_named around.paths around.files mark one.file >>= included around.setting mark list one.part

-- How the code goes.

-- the resources of the fork in these bytes that are asked for are put, or the first rule that the fork breaks
abbrev pub fork_included : Setting → Mark → List Resource → Part → List ℕ → Result (List Resource) Fault
fork_included setting mark list part bytes = admit_fork (Some mark) bytes >>= λ fork. included setting mark list part fork.list
