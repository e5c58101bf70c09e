use Rattle.rz_stmt_brackets.proofs.Limits.{is_kept, kept}
use Rattle.rz_stmt_brackets.proofs.laws.limits_are_kept.Goals as goal

pub returns : goal.returns
returns c tokens = (kept tokens, is_kept tokens)
