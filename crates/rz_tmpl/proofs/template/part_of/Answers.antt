use Rattle.std.proofs.Common.{ℕ, ◌+◌, ap, ◌∙◌}
use Rattle.rz_tmpl.proofs.Ends.{begins, ends_whole, goes_on}
use Rattle.rz_tmpl.proofs.template.part_of.Goals as goal

pub loop-entry-init : goal.loop-entry-init
loop-entry-init c = begins c.args.entries.now c.new-parts.result (λ lists is. c.new-parts.ensures lists (ap (λ (n : ℕ). n + 1) c.counted_lists.ensures.lists ∙ is))

pub loop-entry-preserved : goal.loop-entry-preserved
loop-entry-preserved c =
    goes_on c.args.entries.now c.loop-entry.left.now c.in-Some.front.now c.in-Some.entry.now c.loop-entry.parts c.in_ok-parts.parts
    c.requires c.loop-entry.invariant c.in-Some.ensures.cases.0 c.in_ok-parts.ensures

pub returns-clause-part : goal.returns-clause-part
returns-clause-part c = λ items are.
    ends_whole c.args.entries.now c.loop-entry.left.now c.loop-entry.parts items c.loop-entry.invariant c.in_default.ensures.cases are
