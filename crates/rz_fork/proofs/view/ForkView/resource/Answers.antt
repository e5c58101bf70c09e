use Rattle.std.proofs.Common.{◌<◌, Some, length, slice_get, sym, ap, subst, ◌∙◌, arith, List}
use Rattle.rz_core.specs.declared.resource.Resource.{Resource}
use Rattle.rz_fork.specs.Contents.{Fork}
use Rattle.rz_fork.proofs.Holding.{data_within, name_within, has_resources}
use Rattle.rz_fork.proofs.Lending.{can_begin, get_here, get_later, lent_list, some_type, within_later}
use Rattle.rz_fork.proofs.view.ForkView.resource.Goals as goal

pub loop-entry-init : goal.loop-entry-init
loop-entry-init c =
    let v = c.self.inside in
    let same = lent_list v.bytes.now v.outline v.count c.self.invariant.0 ∙ ap (λ (fork : Fork). fork.list) c.self.view_is in
    record {
      can = record { entry = λ below. absurd (omega (arith, below)); others = can_begin v.bytes.now v.outline v.count c.self.invariant.0 };
      within = subst (λ (l : List Resource). c.args.k < length l) (sym same) c.requires;
      there = ap (λ (l : List Resource). slice_get l c.args.k) same;
    }

pub entry_of-entry-requires-clause-position : goal.entry_of-entry-requires-clause-position
entry_of-entry-requires-clause-position c =
    some_type c.self.inside.bytes.now c.self.inside.outline c.loop-entry.entry c.loop-entry.next c.loop-entry.begun c.loop-entry-test.true c.loop-entry.invariant.within

pub entry_of-entry-requires-clause-types : goal.entry_of-entry-requires-clause-types
entry_of-entry-requires-clause-types c =
    (c.loop-entry.invariant.can.others
    (some_type c.self.inside.bytes.now c.self.inside.outline c.loop-entry.entry c.loop-entry.next c.loop-entry.begun c.loop-entry-test.true c.loop-entry.invariant.within)).types

pub overflow_add-begun : goal.overflow_add-begun
overflow_add-begun c =
    let below = some_type c.self.inside.bytes.now c.self.inside.outline c.loop-entry.entry c.loop-entry.next c.loop-entry.begun c.loop-entry-test.true c.loop-entry.invariant.within in
    omega (arith, below, (c.loop-entry.invariant.can.others below).types.few)

pub loop-entry-smaller : goal.loop-entry-smaller
loop-entry-smaller c =
    let below = some_type c.self.inside.bytes.now c.self.inside.outline c.loop-entry.entry c.loop-entry.next c.loop-entry.begun c.loop-entry-test.true c.loop-entry.invariant.within in
    omega (arith, below)

pub loop-entry-preserved : goal.loop-entry-preserved
loop-entry-preserved c =
    let b = c.self.inside.bytes.now in
    let o = c.self.inside.outline in
    let below = some_type b o c.loop-entry.entry c.loop-entry.next c.loop-entry.begun c.loop-entry-test.true c.loop-entry.invariant.within in
    let all = c.loop-entry.invariant.can.others below in
    record {
      can = record { entry = λ within. has_resources b o c.loop-entry.begun c.entry_of-entry.result all c.entry_of-entry.ensures.entry; others = λ more. all };
      within = within_later b o c.loop-entry.entry c.loop-entry.next c.loop-entry.begun c.entry_of-entry.result c.loop-entry-test.true c.entry_of-entry.ensures.entry c.loop-entry.invariant.within;
      there = get_later b o c.loop-entry.entry c.loop-entry.next c.loop-entry.begun c.entry_of-entry.result c.loop-entry-test.true c.entry_of-entry.ensures.entry ∙ c.loop-entry.invariant.there;
    }

pub view_of-requires-clause-data : goal.view_of-requires-clause-data
view_of-requires-clause-data c = data_within _ _ c.loop-entry.entry c.loop-entry.next _ (c.loop-entry.invariant.can.entry (omega arith)).areas c.reference_of-reference.ensures.reference

pub view_of-requires-clause-area : goal.view_of-requires-clause-area
view_of-requires-clause-area c = (c.loop-entry.invariant.can.entry (omega arith)).area

pub view_of-requires-clause-names : goal.view_of-requires-clause-names
view_of-requires-clause-names c = name_within _ _ c.loop-entry.entry c.loop-entry.next _ (c.loop-entry.invariant.can.entry (omega arith)).name_lists c.reference_of-reference.ensures.reference

pub returns : goal.returns
returns c =
    sym c.loop-entry.invariant.there
    ∙ get_here c.self.inside.bytes.now c.self.inside.outline c.loop-entry.entry c.loop-entry.next c.loop-entry.begun c.reference_of-reference.result c.reference_of-reference.ensures.reference
    ∙ ap (λ (r : Resource). Some r) (sym c.view_of.ensures)
