use Rattle.std.proofs.Common.{drop}
use Rattle.rz_pre.proofs.Numbering.{Numbering}
use Rattle.rz_pre.proofs.condition.numbered.Given as goal

abbrev pub invariant-loop-token : goal.invariant-loop-token
invariant-loop-token l = Numbering l.tool l.tokens (drop l.token-index l.tokens) l.numbers
