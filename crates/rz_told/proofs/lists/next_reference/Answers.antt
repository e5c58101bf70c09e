use Rattle.std.proofs.Common.{◌≡◌, ◌+◌, ◌++◌, List, rules, sym, ap, subst, ◌∙◌, arith, take, None}
use Rattle.rz_core.proofs.Lists.{take_at_more}
use Rattle.rz_fork.specs.declared.layout.Reference.{Reference}
use Rattle.rz_fork.specs.Breaks.{listed}
use Rattle.rz_fork.specs.Code.{AreMarked}
use Rattle.rz_fork.specs.Layout.{references}
use Rattle.rz_told.specs.Left.{references_left}
use Rattle.rz_told.proofs.Onward.{past_reference}
use Rattle.rz_told.proofs.lists.next_reference.Goals as goal

pub returns-then-is_some-clause-gives : goal.returns-then-is_some-clause-gives
returns-then-is_some-clause-gives c =
    let before = take c.loop-next.next (references c.args.bytes.now c.args.entry) in
    c.loop-next.invariant.same
    ∙ past_reference c.args.pass c.args.bytes.now c.args.outline c.args.entry c.loop-next.next _ _ c.reference_of-reference.ensures.reference
    (c.reference_fault-fault.ensures.rule before (λ ids. c.loop-next.invariant.marked ids (omega arith)))

pub returns-then-is_some-clause-marked : goal.returns-then-is_some-clause-marked
returns-then-is_some-clause-marked c ids more =
    let rs = references c.args.bytes.now c.args.entry in
    let place = c.loop-next.next in
    subst (λ (l : List Reference). AreMarked c.reference_fault-fault.new.marks l) (sym (take_at_more rs place c.reference_of-reference.result c.reference_of-reference.ensures.reference))
    (c.reference_fault-fault.ensures.marked (take place rs) ids (c.loop-next.invariant.marked ids (omega arith)))

pub loop-next-preserved : goal.loop-next-preserved
loop-next-preserved c =
    let rs = references c.args.bytes.now c.args.entry in
    let place = c.loop-next.next in
    let none : c.reference_fault-fault.result ≡ None = search rules in
    record {
      same = c.loop-next.invariant.same
          ∙ past_reference c.args.pass c.args.bytes.now c.args.outline c.args.entry place _ _ c.reference_of-reference.ensures.reference
          (c.reference_fault-fault.ensures.rule (take place rs) (λ ids. c.loop-next.invariant.marked ids (omega arith)))
          ∙ ap (λ f. listed f ++ references_left c.args.pass c.args.bytes.now c.args.outline c.args.entry (place + 1)) none;
      onward = omega arith;
      marked = λ ids more. subst (λ (l : List Reference). AreMarked c.reference_fault-fault.new.marks l)
          (sym (take_at_more rs place c.reference_of-reference.result c.reference_of-reference.ensures.reference))
          (c.reference_fault-fault.ensures.marked (take place rs) ids (c.loop-next.invariant.marked ids (omega arith)));
    }
