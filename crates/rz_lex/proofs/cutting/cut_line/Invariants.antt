use Rattle.std.proofs.Common.{length}
use Rattle.rz_lex.proofs.Steps.{Reaches}
use Rattle.rz_lex.proofs.cutting.cut_line.Given as goal

abbrev pub invariant-lexemes : goal.invariant-lexemes
invariant-lexemes l = Reaches l.line.mark l.line.bytes l.tokens l.rest

abbrev pub decreases-lexemes : goal.decreases-lexemes
decreases-lexemes l = length l.rest
