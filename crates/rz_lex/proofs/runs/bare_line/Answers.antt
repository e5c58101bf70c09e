use Rattle.std.proofs.Common.{arith}
use Rattle.rz_lex.proofs.BareLines.{bare_end, bare_run}
use Rattle.rz_lex.proofs.runs.bare_line.Goals as goal

pub returns-in-None-clause-run : goal.returns-in-None-clause-run
returns-in-None-clause-run c =
    let split = c.split_run.ensures in
    bare_run c.args.start.line _ c.split_run.result.1.line c.args.start.rest.now c.split_run.result.0.now c.split_run.result.1.rest.now split.run split.rest split.line
    c.in_ok-size.ensures.free (λ k below. c.in-None.ensures k (omega arith) below)

pub returns-in-None-clause-end : goal.returns-in-None-clause-end
returns-in-None-clause-end c =
    let split = c.split_run.ensures in
    bare_end c.args.start.line _ c.split_run.result.1.line c.args.start.rest.now c.split_run.result.0.now c.split_run.result.1.rest.now split.run split.rest split.line
    c.in_ok-size.ensures.end
