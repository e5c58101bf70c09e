use Rattle.std.proofs.Common.{◌≡◌, ◌≤◌, length}
use Rattle.rz_lex.specs.Escape.{before}
use Rattle.rz_lex.specs.Hex.{hex_value}
use Rattle.rz_lex.proofs.hex.push_pairs.Given as goal

abbrev pub invariant-loop-rest : goal.invariant-loop-rest
invariant-loop-rest l = record {
  so_far : before l.value (hex_value l.rest) ≡ before l.fn.value (hex_value l.body);
  shorter : length l.rest ≤ length l.body;
}

abbrev pub decreases-loop-rest : goal.decreases-loop-rest
decreases-loop-rest l = length l.rest
