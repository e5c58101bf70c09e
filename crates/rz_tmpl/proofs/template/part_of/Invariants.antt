use Rattle.std.proofs.Common.{length}
use Rattle.rz_tmpl.proofs.Ends.{Read}
use Rattle.rz_tmpl.proofs.template.part_of.Given as goal

abbrev pub invariant-loop-entry : goal.invariant-loop-entry
invariant-loop-entry l = Read l.entries l.left l.parts

abbrev pub decreases-loop-entry : goal.decreases-loop-entry
decreases-loop-entry l = length l.left
