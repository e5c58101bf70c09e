use Rattle.std.proofs.Common.{◌≡◌, ◌≤◌, length, reverse, Some}
use Rattle.rz_folder.specs.Folder.{Files}
use Rattle.rz_folder.specs.OnlyReads.{OnlyReads}
use Rattle.rz_pre.specs.Lexed.{IsLexedReading}
use Rattle.rz_pre.specs.Placed.{AreOpenIn, IsPlaced}
use Rattle.rz_pre.specs.Program.{IncludedGoes}
use Rattle.rz_pre.specs.Reading.{state_of}
use Rattle.rz_pre.proofs.Going.{LinesLead}
use Rattle.rz_pre.proofs.Reaching.{AreLinesOf}
use Rattle.rz_pre.proofs.unfolding.+read_file.Given as goal

abbrev pub decreases-read_file : goal.decreases-read_file
decreases-read_file g l = l.levels

abbrev pub invariant-loop-opens : goal.invariant-loop-opens
invariant-loop-opens g l = record {
  leads : (files : Files) → g.F.Folder.files l.fn.folder ≡ Some files
      → LinesLead (IncludedGoes l.setting.tool files l.setting.paths.now l.levels) l.setting.tool l.fn.source.file l.fn.source.ahead (state_of l.fn.reading)
      l.source.ahead (reverse l.opens.items) (state_of l.reading);
  file : l.source.file ≡ l.fn.source.file;
  lines : AreLinesOf l.fn.source.file l.fn.source.ahead l.source.ahead;
  reads : OnlyReads g.F.Folder l.fn.folder l.folder ⊥;
  placed : IsPlaced l.reading;
  lexed : IsLexedReading l.fn.reading → IsLexedReading l.reading;
  more : length l.fn.reading.files ≤ length l.reading.files;
  opened : AreOpenIn (length l.reading.files) (reverse l.opens.items);
}

abbrev pub decreases-loop-opens : goal.decreases-loop-opens
decreases-loop-opens g l = l.source.left
