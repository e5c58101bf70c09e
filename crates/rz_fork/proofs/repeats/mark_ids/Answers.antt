use Rattle.std.proofs.Common.{◌==◌, List, sym, ap, subst, ◌∙◌, arith, take}
use Rattle.std.proofs.lemmas.List.{take_all}
use Rattle.std.specs.List.{list_any}
use Rattle.rz_core.proofs.Lists.{take_at_more, first_in_more, first_in_stop, first_in_end}
use Rattle.rz_fork.specs.declared.layout.Reference.{Reference}
use Rattle.rz_fork.specs.Layout.{references}
use Rattle.rz_fork.specs.Rules.{id_rule}
use Rattle.rz_fork.specs.Code.{AreMarked}
use Rattle.rz_fork.proofs.Items.{length-references}
use Rattle.rz_fork.proofs.repeats.mark_ids.Goals as goal

pub returns-in-Some-clause-rule : goal.returns-in-Some-clause-rule
returns-in-Some-clause-rule c =
    let rs = references c.args.bytes.now c.args.entry in
    let breaks = c.in-Some.ensures.rule (take c.loop-position.position rs) c.loop-position.invariant.marked in
    sym (first_in_stop id_rule rs c.loop-position.position c.reference_of.result c.reference_of.ensures.reference c.in-Some.fault (sym breaks)) ∙ c.loop-position.invariant.rest

pub loop-position-preserved : goal.loop-position-preserved
loop-position-preserved c =
    let rs = references c.args.bytes.now c.args.entry in
    let place = c.loop-position.position in
    let r = c.reference_of.result in
    let is = c.reference_of.ensures.reference in
    let marked = c.loop-position.invariant.marked in
    record {
      marked = subst (λ (l : List Reference). AreMarked c.id_repeats.new.seen l) (sym (take_at_more rs place r is)) (c.in_default.ensures.marked (take place rs) marked);
      rest = first_in_more id_rule rs place r is (sym (c.in_default.ensures.rule (take place rs) marked)) ∙ c.loop-position.invariant.rest;
    }

pub returns-clause-rule : goal.returns-clause-rule
returns-clause-rule c =
    let rs = references c.args.bytes.now c.args.entry in
    sym (first_in_end id_rule rs c.loop-position.position (omega (arith, length-references c.args.bytes.now c.args.entry))) ∙ c.loop-position.invariant.rest

pub returns-clause-marked : goal.returns-clause-marked
returns-clause-marked c id =
    c.loop-position.invariant.marked id
    ∙ ap (list_any (λ r. r.id == id)) (take_all c.loop-position.position (references c.args.bytes.now c.args.entry) (omega (arith, length-references c.args.bytes.now c.args.entry)))
