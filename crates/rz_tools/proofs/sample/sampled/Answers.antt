use Rattle.std.proofs.Common.{subst, sym}
use Rattle.rz_tools_answer.proofs.Warnings.{no_lines}
use Rattle.rz_tools_answer.specs.Made.{making_of}
use Rattle.rz_tools_answer.specs.Warning.{IsWarningText}
use Rattle.rz_tools.proofs.SampleSteps.{again_made, again_stopped, text_stopped}
use Rattle.rz_tools.proofs.sample.sampled.Goals as goal

pub returns-in_err-text-clause-lines : goal.returns-in_err-text-clause-lines
returns-in_err-text-clause-lines c =
    text_stopped c.args.count c.args.moment (making_of c.in_ok-fork.fork) c.in_ok-fork.ensures.made c.in_err-text.field-0.0 c.in_err-text.ensures.made
    c.from_residual-in_err-text.result c.from_residual-in_err-text.ensures.1

pub returns-in_err-again-clause-lines : goal.returns-in_err-again-clause-lines
returns-in_err-again-clause-lines c =
    again_stopped c.args.count c.args.moment (making_of c.in_ok-fork.fork) (making_of c.in_ok-text.text) c.in_ok-fork.ensures.made c.in_ok-text.ensures.made
    c.in_err-again.field-0.0 c.in_err-again.ensures.made c.from_residual-in_err-again.result c.from_residual-in_err-again.ensures.1

pub returns-clause-lines : goal.returns-clause-lines
returns-clause-lines c =
    again_made c.args.count c.args.moment (making_of c.in_ok-fork.fork) (making_of c.in_ok-text.text) c.in_ok-fork.ensures.made c.in_ok-text.ensures.made
    (making_of c.in_ok-again.again) _ c.new.result c.in_ok-again.ensures.made c.in_ok-bytes.ensures c.new.ensures

pub returns-clause-good : goal.returns-clause-good
returns-clause-good c = subst IsWarningText (sym c.new.ensures) no_lines
