use Rattle.rz_lex.specs.Runs.{is_plain}
use Rattle.rz_lex.proofs.RunsAhead.{plain_ahead, split_is}
use Rattle.rz_lex.proofs.runs.plain_run.Goals as goal

pub returns-clause-run : goal.returns-clause-run
returns-clause-run c =
    let split = c.split_run.ensures in
    split_is is_plain (c.args.start.line) (c.args.start.rest.now) (c.split_run.result.0.now) (c.split_run.result.1.rest.now) _ (c.split_run.result.1.line) c.plain_size.ensures.size
    split.run split.rest split.line (plain_ahead c.args.start.line c.args.start.rest.now)
