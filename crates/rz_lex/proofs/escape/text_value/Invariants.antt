use Rattle.std.proofs.Common.{◌≡◌, length}
use Rattle.rz_lex.specs.Escape.{text_value, before}
use Rattle.rz_lex.proofs.escape.text_value.Given as goal

abbrev pub invariant-loop-rest : goal.invariant-loop-rest
invariant-loop-rest l = before l.value (text_value 0 l.rest) ≡ text_value 0 l.body

abbrev pub decreases-loop-rest : goal.decreases-loop-rest
decreases-loop-rest l = length l.rest
