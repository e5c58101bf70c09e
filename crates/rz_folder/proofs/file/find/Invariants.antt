use Rattle.std.proofs.Common.{◌≡◌, ◌-◌, ◌≤◌, drop, length, Some}
use Rattle.rz_folder.specs.Folder.{Files}
use Rattle.rz_folder.specs.OnlyReads.{OnlyReads}
use Rattle.rz_folder.specs.Names.{file_of}
use Rattle.rz_folder.proofs.file.find.Given as goal

abbrev pub invariant-loop-k : goal.invariant-loop-k
invariant-loop-k g l = record {
  left : (files : Files) → g.F.Folder.files l.fn.folder ≡ Some files → file_of files l.names ≡ file_of files (drop l.k l.names);
  within : l.k ≤ length l.names;
  reads : OnlyReads g.F.Folder l.fn.folder l.folder ⊥;
}

abbrev pub decreases-loop-k : goal.decreases-loop-k
decreases-loop-k g l = length l.names - l.k
