use Rattle.std.proofs.Common.{◌≡◌, ◌≤◌, drop}
use Rattle.rz_stmt_brackets.specs.Limit.{keeps_limits}
use Rattle.rz_stmt_brackets.proofs.limit.is_within_limits.Given as goal

abbrev pub invariant-loop-token : goal.invariant-loop-token
invariant-loop-token l = record {
  keeps : keeps_limits l.most 0 0 l.tokens ≡ keeps_limits l.most l.depth l.row (drop l.token-index l.tokens);
  shallow : l.depth ≤ 64;
  short : l.row ≤ 1024;
}
