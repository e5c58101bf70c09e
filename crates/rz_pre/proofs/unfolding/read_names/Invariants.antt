use Rattle.std.proofs.Common.{◌≡◌, ◌-◌, ◌≤◌, drop, length, Some}
use Rattle.rz_folder.specs.Folder.{Files}
use Rattle.rz_folder.specs.OnlyReads.{OnlyReads}
use Rattle.rz_pre.specs.Lexed.{IsLexedReading}
use Rattle.rz_pre.specs.Placed.{IsPlaced}
use Rattle.rz_pre.specs.Reading.{state_of}
use Rattle.rz_pre.proofs.Going.{NamesLead}
use Rattle.rz_pre.proofs.unfolding.read_names.Given as goal

abbrev pub invariant-loop-k : goal.invariant-loop-k
invariant-loop-k g l = record {
  leads : (files : Files) → g.F.Folder.files l.fn.folder ≡ Some files
      → NamesLead l.setting.tool files l.setting.paths.now l.names (drop l.k l.names) (state_of l.fn.reading) (state_of l.reading);
  within : l.k ≤ length l.names;
  reads : OnlyReads g.F.Folder l.fn.folder l.folder ⊥;
  placed : IsPlaced l.reading;
  lexed : IsLexedReading l.fn.reading → IsLexedReading l.reading;
  more : length l.fn.reading.files ≤ length l.reading.files;
}

abbrev pub decreases-loop-k : goal.decreases-loop-k
decreases-loop-k g l = length l.names - l.k
