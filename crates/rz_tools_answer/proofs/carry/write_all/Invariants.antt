use Rattle.std.proofs.Common.{◌≡◌, ◌≤◌, map, take}
use Rattle.rz_tools_answer.specs.Answer.{count_after}
use Rattle.rz_tools_answer.specs.Plan.{write_of}
use Rattle.rz_tools_answer.proofs.Carried.{AreSoFar}
use Rattle.rz_tools_answer.proofs.carry.write_all.Given as goal

abbrev pub invariant-loop-write : goal.invariant-loop-write
invariant-loop-write g l = record {
  so_far : AreSoFar (map write_of (take l.write-index l.write-items)) (g.F.Folder.files l.fn.folder) (g.F.Folder.files l.folder);
  writes : g.F.Folder.writes l.folder ≡ count_after (map write_of (take l.write-index l.write-items)) (g.F.Folder.writes l.fn.folder);
  untouched : l.write-index ≡ 0 → g.F.Folder.files l.folder ≡ g.F.Folder.files l.fn.folder;
  counted : g.F.Folder.write_faults l.fn.folder ≤ g.F.Folder.write_faults l.folder;
  other_count : g.F.Folder.read_faults l.folder ≡ g.F.Folder.read_faults l.fn.folder;
}
