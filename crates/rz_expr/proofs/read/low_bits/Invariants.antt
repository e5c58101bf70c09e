use Rattle.std.proofs.Common.{◌≡◌, ◌%◌, ◌^◌, ◌<◌, length}
use Rattle.rz_expr.specs.Grammar.{bytes_number}
use Rattle.rz_expr.proofs.read.low_bits.Given as goal

abbrev pub invariant-loop-rest : goal.invariant-loop-rest
invariant-loop-rest l = record {
  value : bytes_number l.number l.rest % 2 ^ 32 ≡ bytes_number 0 l.bytes % 2 ^ 32;
  below : l.number < 2 ^ 32;
}

abbrev pub decreases-loop-rest : goal.decreases-loop-rest
decreases-loop-rest l = length l.rest
