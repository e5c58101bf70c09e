use Rattle.std.proofs.Common.{length}
use Rattle.rz_tmpl.proofs.Fronts.{Front}
use Rattle.rz_tmpl.proofs.read.entries.Given as goal

abbrev pub invariant-loop-number : goal.invariant-loop-number
invariant-loop-number l = Front l.bytes l.rest l.bodies l.entries

abbrev pub decreases-loop-number : goal.decreases-loop-number
decreases-loop-number l = length l.rest
