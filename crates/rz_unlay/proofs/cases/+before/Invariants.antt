use Rattle.rz_unlay.proofs.KeySteps.{AreFoundSoFar}
use Rattle.rz_unlay.proofs.cases.+before.Given as goal

abbrev pub invariant-widths_before-loop-field : goal.invariant-widths_before-loop-field
invariant-widths_before-loop-field l = AreFoundSoFar l.row l.field-index l.width
