-- The files of statements, and what a `read` statement leaves of the list of resources, or its first fault. (MPW Rez.)
use Rattle.std.specs.Prelude.{ℕ, List, Ok}
use Rattle.std.specs.declared.result.Result.{Result}
use Rattle.rz_core.specs.Stop.{◌>>=◌}
use Rattle.rz_core.specs.declared.facts.Facts.{Facts}
use Rattle.rz_core.specs.declared.fault.Fault.{Fault}
use Rattle.rz_core.specs.declared.fault.Mark.{Mark}
use Rattle.rz_core.specs.declared.resource.Resource.{Resource}
use Rattle.rz_folder.specs.Folder.{Files}
use Rattle.rz_stmt_lists.specs.Read.{Read}
use Rattle.rz_tools_values.specs.Around.{Around}
use Rattle.rz_tools_values.specs.Contents.{short_bytes, with_bytes}
use Rattle.rz_tools_values.specs.Head.{facts_of}
use Rattle.rz_tools_work.specs.Put.{list_with}
use Rattle.rz_tools_values.specs.Files.{file_named}

-- the file as it is, and 301 for more than 16,777,212 bytes
abbrev pub contents_named : List (List ℕ) → Files → Mark → List ℕ → Result (List ℕ) Fault
contents_named paths files mark name = file_named paths files mark name >>= short_bytes mark

-- the resource of which this is known, with the contents of a file
abbrev pub with_file : List (List ℕ) → Files → Mark → List ℕ → Facts → Result Resource Fault
with_file paths files mark name known = contents_named paths files mark name >>= λ bytes. Ok (with_bytes known bytes)

-- the resource of a `read` statement: its head, and then the file
abbrev pub resource_read : Around → Mark → Read → Result Resource Fault
resource_read around mark one = facts_of around.setting mark one.kind one.head >>= with_file around.paths around.files mark one.file

abbrev pub list_reading : Around → Mark → List Resource → Read → Result (List Resource) Fault
list_reading around mark list one = resource_read around mark one >>= list_with mark around.setting.over list
