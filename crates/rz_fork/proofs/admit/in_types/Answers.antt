use Rattle.std.proofs.Common.{sym, ◌∙◌, arith, List, Option}
use Rattle.rz_core.proofs.Lists.{first_in_more, first_in_stop, first_in_end}
use Rattle.rz_fork.specs.declared.fault.ForkFault.{ForkFault}
use Rattle.rz_fork.specs.declared.layout.TypeEntry.{TypeEntry}
use Rattle.rz_fork.specs.Layout.{entries}
use Rattle.rz_fork.specs.Code.{in_type}
use Rattle.rz_fork.specs.Code.{tested_by}
use Rattle.rz_fork.proofs.Items.{length-entries}
use Rattle.rz_fork.proofs.Holding.{lists_within}
use Rattle.rz_fork.proofs.admit.in_types.Goals as goal

pub in_type-requires-clause-list : goal.in_type-requires-clause-list
in_type-requires-clause-list c =
    omega (arith, lists_within c.args.outline (entries c.args.bytes.now c.args.outline) c.loop-position.position c.entry_of-entry.result c.requires.lists c.entry_of-entry.ensures.entry)

pub returns-in-Some-clause-rule : goal.returns-in-Some-clause-rule
returns-in-Some-clause-rule c =
    let rule : List TypeEntry → TypeEntry → Option ForkFault = λ before t. in_type (tested_by c.args.rule) c.args.bytes.now c.args.outline t in
    sym (first_in_stop rule (entries c.args.bytes.now c.args.outline) c.loop-position.position c.entry_of-entry.result c.entry_of-entry.ensures.entry c.in-Some.fault (sym c.in-Some.ensures.rule)) ∙ c.loop-position.invariant

pub loop-position-preserved : goal.loop-position-preserved
loop-position-preserved c =
    let rule : List TypeEntry → TypeEntry → Option ForkFault = λ before t. in_type (tested_by c.args.rule) c.args.bytes.now c.args.outline t in
    first_in_more rule (entries c.args.bytes.now c.args.outline) c.loop-position.position c.entry_of-entry.result c.entry_of-entry.ensures.entry (sym c.in_default.ensures.rule) ∙ c.loop-position.invariant

pub returns-clause-rule : goal.returns-clause-rule
returns-clause-rule c =
    let rule : List TypeEntry → TypeEntry → Option ForkFault = λ before t. in_type (tested_by c.args.rule) c.args.bytes.now c.args.outline t in
    sym (first_in_end rule (entries c.args.bytes.now c.args.outline) c.loop-position.position (omega (arith, length-entries c.args.bytes.now c.args.outline))) ∙ c.loop-position.invariant
