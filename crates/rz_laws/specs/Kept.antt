-- A file as the code holds it: its numbers have their widths, and its texts and forks are bytes.
use Rattle.std.specs.Prelude.{ℕ, ◌<◌, List}
use Rattle.std.specs.List.{AllByRecursion}
use Rattle.rz_bridge.specs.Ranges.{AreDates, IsStored}
use Rattle.rz_bridge.specs.declared.file.MacFile.{MacFile}

-- each of them is a byte
abbrev pub AreBytes : List ℕ → Type 0
AreBytes bytes = AllByRecursion (λ b. b < 256) bytes

pub record IsKept (file : MacFile) : Type 0 where
  pub stored : IsStored file.finder
  pub dates : AreDates file
  pub name : AreBytes file.name
  pub extra : AreBytes file.finder.extra
  pub data_fork : AreBytes file.data_fork
  pub res_fork : AreBytes file.res_fork
