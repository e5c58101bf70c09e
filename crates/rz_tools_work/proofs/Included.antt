-- What an `include` statement leaves, by the file of its name and the fork of that.
use Rattle.std.proofs.Common.{◌≡◌, ℕ, List, Some, Ok, Err, refl, ap, ◌∙◌}
use Rattle.std.specs.declared.result.Result.{Result}
use Rattle.rz_core.specs.Stop.{◌>>=◌}
use Rattle.rz_core.specs.declared.fault.Fault.{Fault}
use Rattle.rz_core.specs.declared.fault.Mark.{Mark}
use Rattle.rz_core.specs.declared.resource.Resource.{Resource}
use Rattle.rz_folder.specs.Folder.{Files}
use Rattle.rz_fork.specs.Contents.{Fork}
use Rattle.rz_bridge.specs.declared.file.MacFile.{MacFile}
use Rattle.rz_bridge_files.specs.Contents.{admit_fork}
use Rattle.rz_stmt_lists.specs.Include.{Part}
use Rattle.rz_tools_values.specs.Files.{file_of_name, list_named}
use Rattle.rz_tools_values.specs.declared.setting.Setting.{Setting}
use Rattle.rz_tools_values.proofs.Split.{bind_twice, list_split}
use Rattle.rz_tools_work.specs.Include.{fork_included, included}

module _ (setting : Setting) (mark : Mark) (list : List Resource) (part : Part) where
  of_the_fork : (told : Result MacFile Fault)
      → ((told >>= λ file. admit_fork (Some mark) file.res_fork >>= λ fork. Ok fork.list) >>= included setting mark list part)
      ≡ (told >>= λ file. fork_included setting mark list part file.res_fork)
  of_the_fork (Ok file) = bind_twice (admit_fork (Some mark) file.res_fork) (λ (fork : Fork). Ok fork.list) (included setting mark list part)
  of_the_fork (Err fault) = refl

  pub of_the_file : (paths : List (List ℕ)) (files : Files) (name : List ℕ)
      → (list_named paths files mark name >>= included setting mark list part)
      ≡ (file_of_name paths files mark name >>= λ file. fork_included setting mark list part file.res_fork)
  of_the_file paths files name =
      ap (λ (a : Result (List Resource) Fault). a >>= included setting mark list part) (list_split mark paths files name) ∙ of_the_fork (file_of_name paths files mark name)
