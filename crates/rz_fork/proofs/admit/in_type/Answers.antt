use Rattle.std.proofs.Common.{sym, ◌∙◌, arith, take}
use Rattle.rz_core.proofs.Lists.{first_in_more, first_in_stop, first_in_end}
use Rattle.rz_fork.specs.Layout.{references}
use Rattle.rz_fork.specs.Rules.{reference_rule}
use Rattle.rz_fork.specs.Code.{in_type}
use Rattle.rz_fork.specs.Code.{tested_by}
use Rattle.rz_fork.proofs.Items.{length-references}
use Rattle.rz_fork.proofs.admit.in_type.Goals as goal

pub returns-in-Some-clause-rule : goal.returns-in-Some-clause-rule
unfolding in_type
returns-in-Some-clause-rule c =
    let rs = references c.args.bytes.now c.args.entry in
    sym (first_in_stop (reference_rule (tested_by c.args.rule) c.args.bytes.now c.args.outline) rs c.loop-position.position c.reference_of-reference.result c.reference_of-reference.ensures.reference c.in-Some.fault (sym (c.in-Some.ensures.rule (take c.loop-position.position rs)))) ∙ c.loop-position.invariant

pub loop-position-preserved : goal.loop-position-preserved
loop-position-preserved c =
    let rs = references c.args.bytes.now c.args.entry in
    first_in_more (reference_rule (tested_by c.args.rule) c.args.bytes.now c.args.outline) rs c.loop-position.position c.reference_of-reference.result c.reference_of-reference.ensures.reference (sym (c.in_default.ensures.rule (take c.loop-position.position rs))) ∙ c.loop-position.invariant

pub returns-clause-rule : goal.returns-clause-rule
unfolding in_type
returns-clause-rule c =
    let rs = references c.args.bytes.now c.args.entry in
    sym (first_in_end (reference_rule (tested_by c.args.rule) c.args.bytes.now c.args.outline) rs c.loop-position.position (omega (arith, length-references c.args.bytes.now c.args.entry))) ∙ c.loop-position.invariant
