use Rattle.std.proofs.Common.{◌≡◌, length}
use Rattle.rz_pre_source.specs.Directive.{unblanked}
use Rattle.rz_pre_source.proofs.directive.unblanked.Given as goal

abbrev pub invariant-loop-rest : goal.invariant-loop-rest
invariant-loop-rest l = unblanked l.rest ≡ unblanked l.line

abbrev pub decreases-loop-rest : goal.decreases-loop-rest
decreases-loop-rest l = length l.rest
