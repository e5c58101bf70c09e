-- What holds for all statements of a program.
use Rattle.std.specs.Prelude.{ℕ, List}
use Rattle.rz_folder.specs.Folder.{Files}
use Rattle.rz_tools_values.specs.declared.setting.Setting.{Setting}

-- what the words ask for, the paths after which the files of statements are looked for, and what each name holds
pub record Around : Type 0 where
  pub setting : Setting
  pub paths : List (List ℕ)
  pub files : Files

abbrev pub around : Setting → List (List ℕ) → Files → Around
around setting paths files = record { setting = setting; paths = paths; files = files }
