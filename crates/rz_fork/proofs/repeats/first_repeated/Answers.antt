use Rattle.std.proofs.Common.{sym, ◌∙◌, arith}
use Rattle.rz_core.proofs.Lists.{first_in_more, first_in_stop, first_in_end}
use Rattle.rz_fork.specs.Layout.{entries}
use Rattle.rz_fork.specs.Rules.{type_rule}
use Rattle.rz_fork.proofs.Items.{length-entries}
use Rattle.rz_fork.proofs.repeats.first_repeated.Goals as goal

pub returns-in-Some-clause-rule : goal.returns-in-Some-clause-rule
returns-in-Some-clause-rule c =
    sym (first_in_stop type_rule (entries c.args.bytes.now c.args.outline) c.loop-position.position c.entry_of-entry.result c.entry_of-entry.ensures.entry c.in-Some.fault (sym c.in-Some.ensures.rule)) ∙ c.loop-position.invariant

pub loop-position-preserved : goal.loop-position-preserved
loop-position-preserved c =
    first_in_more type_rule (entries c.args.bytes.now c.args.outline) c.loop-position.position c.entry_of-entry.result c.entry_of-entry.ensures.entry (sym c.in_default.ensures.rule) ∙ c.loop-position.invariant

pub returns-clause-rule : goal.returns-clause-rule
returns-clause-rule c =
    let ts = entries c.args.bytes.now c.args.outline in
    sym (first_in_end type_rule ts c.loop-position.position (omega (arith, length-entries c.args.bytes.now c.args.outline))) ∙ c.loop-position.invariant
