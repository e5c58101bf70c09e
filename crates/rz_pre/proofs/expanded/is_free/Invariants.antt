use Rattle.std.proofs.Common.{◌≡◌, drop}
use Rattle.rz_pre.specs.Live.{are_bare}
use Rattle.rz_pre.specs.Macros.{rows_of}
use Rattle.rz_pre.proofs.expanded.is_free.Given as goal

abbrev pub invariant-loop-token : goal.invariant-loop-token
invariant-loop-token l = are_bare (rows_of l.macros) (drop l.token-index l.tokens) ≡ are_bare (rows_of l.macros) l.tokens
