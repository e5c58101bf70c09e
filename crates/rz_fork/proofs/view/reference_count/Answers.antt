use Rattle.std.proofs.Common.{ap, ◌∙◌, arith}
use Rattle.std.proofs.lemmas.List.{take_all}
use Rattle.rz_fork.specs.Layout.{entries}
use Rattle.rz_fork.specs.Rules.{count_of}
use Rattle.rz_fork.proofs.Items.{length-entries, count_more}
use Rattle.rz_fork.proofs.view.reference_count.Goals as goal

pub loop-position-preserved : goal.loop-position-preserved
loop-position-preserved c =
    let more = count_more (entries c.args.bytes.now c.args.outline) c.loop-position.position c.entry_of.result c.entry_of.ensures.entry in
    record { so_far = omega (arith, more); few = omega (arith, c.entry_of.ensures.count) }

pub returns : goal.returns
returns c =
    c.loop-position.invariant.so_far
    ∙ ap count_of (take_all c.loop-position.position (entries c.args.bytes.now c.args.outline) (omega (arith, length-entries c.args.bytes.now c.args.outline)))
