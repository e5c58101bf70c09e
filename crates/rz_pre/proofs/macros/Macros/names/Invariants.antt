use Rattle.std.proofs.Common.{◌≡◌, take}
use Rattle.rz_pre.specs.Macros.{rows_of}
use Rattle.rz_pre.proofs.Names.{live_words}
use Rattle.rz_pre.proofs.macros.Macros.names.Given as goal

abbrev pub invariant-loop-index : goal.invariant-loop-index
invariant-loop-index l = l.words ≡ live_words (take l.index (rows_of l.self))
