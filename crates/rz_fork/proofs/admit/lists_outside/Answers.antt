use Rattle.std.proofs.Common.{◌≡◌, sym, ap, ◌∙◌, arith, take, Some, None}
use Rattle.rz_core.proofs.Lists.{first_in_more, first_in_stop, first_in_end}
use Rattle.rz_fork.specs.Layout.{entries}
use Rattle.rz_fork.specs.Rules.{list_rule, references_outside}
use Rattle.rz_fork.proofs.Items.{length-entries, count_more}
use Rattle.rz_fork.proofs.admit.lists_outside.Goals as goal

pub returns-in-Some-clause-rule : goal.returns-in-Some-clause-rule
returns-in-Some-clause-rule c =
    let ts = entries c.args.bytes.now c.args.outline in
    let breaks : list_rule c.args.outline (take c.loop-position.position ts) c.entry_of-entry.result ≡ Some c.in-Some.fault =
    ap (λ n. references_outside c.args.outline n c.entry_of-entry.result) (sym c.loop-position.invariant.so_far) ∙ sym c.in-Some.ensures.rule in
    sym (first_in_stop (list_rule c.args.outline) ts c.loop-position.position c.entry_of-entry.result c.entry_of-entry.ensures.entry c.in-Some.fault breaks) ∙ c.loop-position.invariant.rest

pub loop-position-preserved : goal.loop-position-preserved
loop-position-preserved c =
    let ts = entries c.args.bytes.now c.args.outline in
    let holds : list_rule c.args.outline (take c.loop-position.position ts) c.entry_of-entry.result ≡ None =
    ap (λ n. references_outside c.args.outline n c.entry_of-entry.result) (sym c.loop-position.invariant.so_far) ∙ sym c.in_default.ensures.rule in
    let more = count_more ts c.loop-position.position c.entry_of-entry.result c.entry_of-entry.ensures.entry in
    record {
      so_far = omega (arith, more);
      few = omega (arith, c.in_default.ensures.so_far);
      rest = first_in_more (list_rule c.args.outline) ts c.loop-position.position c.entry_of-entry.result c.entry_of-entry.ensures.entry holds ∙ c.loop-position.invariant.rest;
    }

pub returns-clause-rule : goal.returns-clause-rule
returns-clause-rule c =
    let ts = entries c.args.bytes.now c.args.outline in
    sym (first_in_end (list_rule c.args.outline) ts c.loop-position.position (omega (arith, length-entries c.args.bytes.now c.args.outline))) ∙ c.loop-position.invariant.rest
