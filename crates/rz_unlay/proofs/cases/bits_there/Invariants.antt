use Rattle.std.proofs.Common.{drop}
use Rattle.rz_types.specs.Field.{plain_body}
use Rattle.rz_unlay.specs.Fits.{AreFit}
use Rattle.rz_unlay.proofs.cases.bits_there.Given as goal

abbrev pub invariant-loop-field : goal.invariant-loop-field
invariant-loop-field l = AreFit (plain_body (drop l.field-index l.row))
