use Rattle.std.proofs.Common.{◌+◌, ◌∷◌, sym, ap, ◌∙◌, arith}
use Rattle.rz_core.specs.declared.resource.Resource.{Resource}
use Rattle.rz_fork.specs.View.{left}
use Rattle.rz_fork.proofs.Holding.{data_within, name_within, has_resources}
use Rattle.rz_fork.proofs.Lending.{nothing_left, next_type, one_left}
use Rattle.rz_fork.proofs.view.Walk.next.Goals as goal

pub returns-then-self : goal.returns-then-self
returns-then-self c =
    let w = c.loop-self.self-inside in
    let none = nothing_left w.bytes.now w.outline w.entry w.next w.begun (omega arith) (omega arith) in
    (sym c.self.view_is ∙ sym c.loop-self.invariant.same ∙ none, none)

pub loop-self-preserved : goal.loop-self-preserved
loop-self-preserved c =
    let w = c.loop-self.self-inside in
    record {
      same = next_type w.bytes.now w.outline w.entry w.next w.begun c.entry_of-self-inside.result (omega arith) c.entry_of-self-inside.ensures.entry ∙ c.loop-self.invariant.same;
      can = record {
        entry = λ within. has_resources _ _ w.begun _ (c.loop-self.invariant.can.others (omega arith)) c.entry_of-self-inside.ensures.entry;
        others = λ below. c.loop-self.invariant.can.others (omega arith);
      };
    }

pub view_of-requires-clause-data : goal.view_of-requires-clause-data
view_of-requires-clause-data c = data_within _ _ c.loop-self.self-inside.entry c.loop-self.self-inside.next _ (c.loop-self.invariant.can.entry (omega arith)).areas c.reference_of-reference.ensures.reference

pub view_of-requires-clause-area : goal.view_of-requires-clause-area
view_of-requires-clause-area c = (c.loop-self.invariant.can.entry (omega arith)).area

pub view_of-requires-clause-names : goal.view_of-requires-clause-names
view_of-requires-clause-names c = name_within _ _ c.loop-self.self-inside.entry c.loop-self.self-inside.next _ (c.loop-self.invariant.can.entry (omega arith)).name_lists c.reference_of-reference.ensures.reference

pub returns : goal.returns
returns c =
    let w = c.loop-self.self-inside in
    sym c.self.view_is ∙ sym c.loop-self.invariant.same
    ∙ one_left w.bytes.now w.outline w.entry w.next w.begun _ c.reference_of-reference.ensures.reference
    ∙ ap (λ (r : Resource). r ∷ left w.bytes.now w.outline w.entry (w.next + 1) w.begun) (sym c.view_of.ensures)
