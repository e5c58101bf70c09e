use Rattle.std.proofs.Common.{◌≡◌, length}
use Rattle.rz_pre_source.specs.Directive.{behind_word}
use Rattle.rz_pre_source.proofs.directive.behind_word.Given as goal

abbrev pub invariant-loop-rest : goal.invariant-loop-rest
invariant-loop-rest l = behind_word l.rest ≡ behind_word l.bytes

abbrev pub decreases-loop-rest : goal.decreases-loop-rest
decreases-loop-rest l = length l.rest
