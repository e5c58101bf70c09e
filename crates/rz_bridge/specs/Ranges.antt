-- The numbers of a file as the code holds them.
use Rattle.std.specs.Prelude.{◌≡◌, ◌^◌, ◌<◌, length, FitsSigned}
use Rattle.std.specs.Int.{w16}
use Rattle.rz_bridge.specs.declared.file.Finder.{Finder}
use Rattle.rz_bridge.specs.declared.file.MacFile.{MacFile}

-- the numbers of the Finder's fields have 32 and 16 bits, and 16 bytes stand after them
pub record IsStored (finder : Finder) : Type 0 where
  pub kind : finder.kind.code < 2 ^ 32
  pub creator : finder.creator.code < 2 ^ 32
  pub flags : finder.flags < 2 ^ 16
  pub vertical : FitsSigned w16 finder.vertical
  pub horizontal : FitsSigned w16 finder.horizontal
  pub folder : FitsSigned w16 finder.folder
  pub extra : length finder.extra ≡ 16

-- the dates have 32 bits
pub record AreDates (file : MacFile) : Type 0 where
  pub created : file.created < 2 ^ 32
  pub modified : file.modified < 2 ^ 32
