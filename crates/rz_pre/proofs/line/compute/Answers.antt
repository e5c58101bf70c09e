use Rattle.rz_pre.specs.Live.{live_in}
use Rattle.rz_pre.specs.Macros.{rows_of}
use Rattle.rz_pre.specs.Line.{behind_first}
use Rattle.rz_pre.proofs.Placing.{behind_on, computed_so, cut_on}
use Rattle.rz_pre.proofs.line.compute.Goals as goal

pub returns-clause-nameable : goal.returns-clause-nameable
returns-clause-nameable c =
    computed_so c.args.mark (live_in (rows_of c.args.macros.now)) c.args.tool (behind_first c.in_ok-tokens.tokens) c.compute_condition.result
    (rw (c.behind_first.ensures, c.as_slice.ensures) at c.compute_condition.ensures)
    (behind_on c.args.mark c.in_ok-tokens.tokens (cut_on c.args.mark c.args.text.now c.in_ok-tokens.tokens c.in_ok-tokens.ensures.act))
