use Rattle.std.proofs.Common.{◌≡◌, length}
use Rattle.rz_lex.specs.Digits.{are_digits, spelled_from}
use Rattle.rz_lex.proofs.digits.digits_value.Given as goal

abbrev pub invariant-loop-rest : goal.invariant-loop-rest
invariant-loop-rest l = record {
  value : spelled_from l.base l.value l.rest ≡ spelled_from l.base 0 l.digits;
  digits : are_digits l.base l.rest ≡ are_digits l.base l.digits;
}

abbrev pub decreases-loop-rest : goal.decreases-loop-rest
decreases-loop-rest l = length l.rest
