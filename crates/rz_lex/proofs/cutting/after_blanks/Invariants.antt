use Rattle.std.proofs.Common.{◌≡◌, ◌≤◌, length}
use Rattle.rz_lex.specs.Cutting.{after_blanks}
use Rattle.rz_lex.proofs.cutting.after_blanks.Given as goal

abbrev pub invariant-loop-rest : goal.invariant-loop-rest
invariant-loop-rest l = record { same : after_blanks l.rest ≡ after_blanks l.line; shorter : length l.rest ≤ length l.line }

abbrev pub decreases-loop-rest : goal.decreases-loop-rest
decreases-loop-rest l = length l.rest
