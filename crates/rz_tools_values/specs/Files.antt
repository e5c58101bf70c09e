-- What the files give that statements and texts name. (MPW Rez.)
use Rattle.std.specs.Prelude.{ℕ, List, [], Some, Ok, None}
use Rattle.std.specs.declared.result.Result.{Result}
use Rattle.rz_core.specs.Stop.{◌>>=◌}
use Rattle.rz_core.specs.declared.fault.Fault.{Fault}
use Rattle.rz_core.specs.declared.fault.Mark.{Mark}
use Rattle.rz_core.specs.declared.resource.Resource.{Resource}
use Rattle.rz_folder.specs.Folder.{Files}
use Rattle.rz_folder.specs.Names.{bytes_of, missing_file, names_of, utf8_name}
use Rattle.rz_bridge.specs.declared.file.MacFile.{MacFile}
use Rattle.rz_bridge_files.specs.Contents.{admit_fork, file_in, fork_in}

-- the file of a statement, its name tried as it stands and then after each path: 101
abbrev pub file_named : List (List ℕ) → Files → Mark → List ℕ → Result (List ℕ) Fault
file_named paths files mark name = bytes_of files (names_of paths (utf8_name name)) (missing_file (Some mark) name)

-- the file of a statement, read in the form that its bytes tell: 101, and then the first rule of the form that it breaks
abbrev pub file_of_name : List (List ℕ) → Files → Mark → List ℕ → Result MacFile Fault
file_of_name paths files mark name = file_named paths files mark name >>= λ bytes. file_in (Some mark) None bytes []

-- the resources of a file, of whatever form: 101, and then the first rule that the form or the fork breaks
abbrev pub list_in : Mark → List ℕ → Result (List Resource) Fault
list_in mark bytes = fork_in (Some mark) None bytes >>= λ fork. Ok fork.list

-- the same of the file that is read
abbrev pub list_of_file : Mark → Result MacFile Fault → Result (List Resource) Fault
list_of_file mark told = told >>= λ file. admit_fork (Some mark) file.res_fork >>= λ fork. Ok fork.list

abbrev pub list_named : List (List ℕ) → Files → Mark → List ℕ → Result (List Resource) Fault
list_named paths files mark name = file_named paths files mark name >>= list_in mark
