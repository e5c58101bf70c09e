use Rattle.std.proofs.Common.{refl, sym, ◌∙◌, arith, List, Option}
use Rattle.rz_core.proofs.Lists.{first_in_more, first_in_stop, first_in_end}
use Rattle.rz_fork.specs.declared.fault.ForkFault.{ForkFault}
use Rattle.rz_fork.specs.declared.layout.TypeEntry.{TypeEntry}
use Rattle.rz_fork.specs.Layout.{entries}
use Rattle.rz_fork.specs.Rules.{Id}
use Rattle.rz_fork.specs.Code.{in_type}
use Rattle.rz_fork.proofs.Items.{length-entries}
use Rattle.rz_fork.proofs.Holding.{lists_within}
use Rattle.rz_fork.proofs.Marks.{ids_in, unmarked}
use Rattle.rz_fork.proofs.repeats.id_repeated.Goals as goal

pub loop-position-init : goal.loop-position-init
loop-position-init c = record { clear = unmarked 65536; rest = refl }

pub mark_ids-requires-clause-list : goal.mark_ids-requires-clause-list
mark_ids-requires-clause-list c =
    omega (arith, c.requires.types.map, lists_within c.args.outline (entries c.args.bytes.now c.args.outline) c.loop-position.position c.entry_of-entry.result c.requires.lists c.entry_of-entry.ensures.entry)

pub clear_ids-requires-clause-list : goal.clear_ids-requires-clause-list
clear_ids-requires-clause-list c =
    omega (arith, c.requires.types.map, lists_within c.args.outline (entries c.args.bytes.now c.args.outline) c.loop-position.position c.entry_of-entry.result c.requires.lists c.entry_of-entry.ensures.entry)

pub returns-in-Some-clause-rule : goal.returns-in-Some-clause-rule
returns-in-Some-clause-rule c =
    let rule : List TypeEntry → TypeEntry → Option ForkFault = λ before t. in_type Id c.args.bytes.now c.args.outline t in
    sym (first_in_stop rule (entries c.args.bytes.now c.args.outline) c.loop-position.position c.entry_of-entry.result c.entry_of-entry.ensures.entry c.in-Some.fault
    (ids_in c.args.bytes.now c.args.outline c.entry_of-entry.result ∙ sym c.in-Some.ensures.rule))
    ∙ c.loop-position.invariant.rest

pub loop-position-preserved : goal.loop-position-preserved
loop-position-preserved c =
    let rule : List TypeEntry → TypeEntry → Option ForkFault = λ before t. in_type Id c.args.bytes.now c.args.outline t in
    record {
      clear = c.clear_ids.ensures;
      rest = first_in_more rule (entries c.args.bytes.now c.args.outline) c.loop-position.position c.entry_of-entry.result c.entry_of-entry.ensures.entry
          (ids_in c.args.bytes.now c.args.outline c.entry_of-entry.result ∙ sym c.in_default.ensures.rule) ∙ c.loop-position.invariant.rest;
    }

pub returns-clause-rule : goal.returns-clause-rule
returns-clause-rule c =
    let rule : List TypeEntry → TypeEntry → Option ForkFault = λ before t. in_type Id c.args.bytes.now c.args.outline t in
    sym (first_in_end rule (entries c.args.bytes.now c.args.outline) c.loop-position.position (omega (arith, length-entries c.args.bytes.now c.args.outline))) ∙ c.loop-position.invariant.rest
