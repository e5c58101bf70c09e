use Rattle.rz_lex.specs.Runs.{is_unbroken}
use Rattle.rz_lex.proofs.RunsAhead.{unbroken_ahead, split_is}
use Rattle.rz_lex.proofs.runs.unbroken_run.Goals as goal

pub returns-clause-run : goal.returns-clause-run
returns-clause-run c =
    let split = c.split_run.ensures in
    split_is (is_unbroken c.args.stop) (c.args.start.line) (c.args.start.rest.now) (c.split_run.result.0.now) (c.split_run.result.1.rest.now) _ (c.split_run.result.1.line) c.unbroken_size.ensures.size
    split.run split.rest split.line (unbroken_ahead c.args.stop c.args.start.line c.args.start.rest.now)
