use Rattle.std.proofs.Common.{length}
use Rattle.rz_pre.specs.Live.{live_in}
use Rattle.rz_pre.specs.Macros.{rows_of}
use Rattle.rz_pre.proofs.Asking.{Telling}
use Rattle.rz_pre.proofs.condition.tell.Given as goal

abbrev pub invariant-loop-first : goal.invariant-loop-first
invariant-loop-first l = Telling (live_in (rows_of l.macros)) l.tokens l.rest l.told

abbrev pub decreases-loop-first : goal.decreases-loop-first
decreases-loop-first l = length l.rest
