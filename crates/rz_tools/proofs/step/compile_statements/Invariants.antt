use Rattle.std.proofs.Common.{ℕ, List, length}
use Rattle.rz_tools_answer.specs.Warning.{AreWarnings}
use Rattle.rz_folder.specs.OnlyReads.{OnlyReads}
use Rattle.rz_lex.specs.Lexeme.{AreLexed}
use Rattle.rz_lex.specs.Within.{AreWithin}
use Rattle.rz_tools_work.specs.Held.{work_of}
use Rattle.rz_tools.specs.Asked.{AnyAsks}
use Rattle.rz_tools.proofs.Stepping.{LeadsIn}
use Rattle.rz_tools.proofs.step.compile_statements.Given as goal

abbrev pub invariant-loop-reader : goal.invariant-loop-reader
invariant-loop-reader g l = record {
  leads : LeadsIn l.setting l.paths (g.F.Folder.files l.fn.folder) (work_of l.fn.work) l.fn.tokens l.reader (work_of l.work);
  reads : OnlyReads g.F.Folder l.fn.folder l.folder ⊥;
  asks : (own : List ℕ) → AnyAsks l.setting.tool l.reader own → AnyAsks l.setting.tool l.fn.tokens own;
  lexed : AreLexed l.reader;
  within : (files : ℕ) → AreWithin files l.fn.tokens → AreWithin files l.reader;
  warned : (files : ℕ) → AreWithin files l.fn.tokens → AreWarnings files l.fn.work.warnings → AreWarnings files l.work.warnings;
}

abbrev pub decreases-loop-reader : goal.decreases-loop-reader
decreases-loop-reader g l = length l.reader
