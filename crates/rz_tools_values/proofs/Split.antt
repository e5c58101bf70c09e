-- The resources of the file that a statement names, by the file.
use Rattle.std.proofs.Common.{◌≡◌, ℕ, List, [], Some, None, Ok, Err, refl, ap, ◌∙◌}
use Rattle.std.specs.declared.result.Result.{Result}
use Rattle.rz_core.specs.Stop.{◌>>=◌}
use Rattle.rz_core.specs.declared.fault.Fault.{Fault}
use Rattle.rz_core.specs.declared.fault.Mark.{Mark}
use Rattle.rz_core.specs.declared.resource.OsType.{OsType}
use Rattle.rz_core.specs.declared.resource.Resource.{Resource}
use Rattle.rz_bridge.specs.declared.file.MacFile.{MacFile}
use Rattle.rz_bridge_files.specs.Contents.{admit_fork, file_in}
use Rattle.rz_fork.specs.Contents.{Fork}
use Rattle.rz_folder.specs.Folder.{Files}
use Rattle.rz_set.specs.declared.pick.Pick.{Pick}
use Rattle.rz_tools_values.specs.Texts.{bytes_chosen, bytes_in, resource_bytes}
use Rattle.rz_tools_values.specs.Files.{file_named, file_of_name, list_in, list_named, list_of_file}

-- what is made of a value that is made of a value
pub bind_twice : {X Y Z : Type 0} (first : Result X Fault) (next : X → Result Y Fault) (last : Y → Result Z Fault)
    → ((first >>= next) >>= last) ≡ (first >>= λ x. next x >>= last)
bind_twice (Ok x) next last = refl
bind_twice (Err fault) next last = refl

module _ (mark : Mark) where
  list_told : (held : Result (List ℕ) Fault)
      → (held >>= list_in mark) ≡ list_of_file mark (held >>= λ bytes. file_in (Some mark) None bytes [])
  list_told (Ok bytes) = bind_twice (file_in (Some mark) None bytes []) (λ (file : MacFile). admit_fork (Some mark) file.res_fork) (λ (fork : Fork). Ok fork.list)
  list_told (Err fault) = refl

  -- the resources of the file of a statement are those of its fork
  pub list_split : (paths : List (List ℕ)) (files : Files) (name : List ℕ)
      → list_named paths files mark name ≡ list_of_file mark (file_of_name paths files mark name)
  list_split paths files name = list_told (file_named paths files mark name)

-- The bytes of a resource of the file of a statement, by the fork of the file.
module _ (mark : Mark) (kind : OsType) (pick : Pick) where
  of_the_fork : (told : Result MacFile Fault)
      → (list_of_file mark told >>= bytes_chosen mark kind pick) ≡ (told >>= λ file. bytes_in mark kind pick file.res_fork)
  of_the_fork (Ok file) = bind_twice (admit_fork (Some mark) file.res_fork) (λ (fork : Fork). Ok fork.list) (bytes_chosen mark kind pick)
  of_the_fork (Err fault) = refl

  pub resource_split : (paths : List (List ℕ)) (files : Files) (name : List ℕ)
      → resource_bytes paths files mark name kind pick ≡ (file_of_name paths files mark name >>= λ file. bytes_in mark kind pick file.res_fork)
  resource_split paths files name =
      ap (λ (a : Result (List Resource) Fault). a >>= bytes_chosen mark kind pick) (list_split mark paths files name) ∙ of_the_fork (file_of_name paths files mark name)
