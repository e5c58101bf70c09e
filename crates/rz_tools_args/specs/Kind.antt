-- A resource type as a word of a command line. (MPW Rez; Inside Macintosh: Text.)
use Rattle.std.specs.Prelude.{◌≡◌, ℕ, List, ◌++◌, Some}
use Rattle.rz_core.specs.Resources.{kind_of}
use Rattle.rz_core.specs.declared.resource.OsType.{OsType}
use Rattle.rz_pre_source.specs.Source.{mark, IsTextOf}

-- a word is the type: its characters have these four bytes in Mac Roman
pub record IsKind (word : List ℕ) (kind : OsType) : Type 0 where
  pub bytes : List ℕ
  pub roman : IsTextOf (mark ++ word) bytes
  pub is : kind_of bytes ≡ Some kind
