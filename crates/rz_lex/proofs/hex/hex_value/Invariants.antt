use Rattle.std.proofs.Common.{◌≡◌, ◌<◌, length}
use Rattle.std.specs.Prelude.{IfSome}
use Rattle.rz_lex.specs.Escape.{before}
use Rattle.rz_lex.specs.Hex.{hex_value, hex_from}
use Rattle.rz_lex.proofs.hex.hex_value.Given as goal

abbrev pub invariant-loop-rest : goal.invariant-loop-rest
invariant-loop-rest l = record {
  so_far : before l.value (hex_from l.first l.rest) ≡ hex_value l.body;
  digit : IfSome l.first (λ high. high < 16);
}

abbrev pub decreases-loop-rest : goal.decreases-loop-rest
decreases-loop-rest l = length l.rest
