-- What the statements over lists of resources leave of the list, or their first fault. (MPW Rez.)
use Rattle.std.specs.Prelude.{List}
use Rattle.std.specs.declared.result.Result.{Result}
use Rattle.rz_core.specs.declared.fault.Fault.{Fault}
use Rattle.rz_core.specs.declared.fault.Mark.{Mark}
use Rattle.rz_core.specs.declared.resource.Resource.{Resource}
use Rattle.rz_stmt_lists.specs.Lists.{Changes, Deletes, Includes, ListForm, Reads}
use Rattle.rz_tools_values.specs.Around.{Around}
use Rattle.rz_tools_work.specs.Change.{list_changing, list_deleting}
use Rattle.rz_tools_work.specs.Include.{list_including}
use Rattle.rz_tools_work.specs.Read.{list_reading}

-- the list after such a statement on this line
abbrev pub list_after : Around → Mark → List Resource → ListForm → Result (List Resource) Fault
list_after around mark list (Includes one) = list_including around mark list one
list_after around mark list (Reads one) = list_reading around mark list one
list_after around mark list (Changes one) = list_changing around.setting mark list one
list_after around mark list (Deletes one) = list_deleting around.setting mark list one
