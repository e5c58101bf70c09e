use Rattle.std.proofs.Common.{rules, ◌<◌, ◌==◌, length, ap, arith}
use Rattle.std.proofs.lemmas.List.{drop_all}
use Rattle.std.specs.List.{list_any}
use Rattle.rz_fork.specs.Layout.{references}
use Rattle.rz_fork.proofs.Items.{length-references}
use Rattle.rz_fork.proofs.Marks.{clear_more}
use Rattle.rz_fork.proofs.repeats.clear_ids.Goals as goal

pub loop-position-preserved : goal.loop-position-preserved
loop-position-preserved c =
    let within : c.reference_of.result.id < length c.loop-position.seen = search rules in
    clear_more c.loop-position.seen c.reference_of.result within (references c.args.bytes.now c.args.entry) c.loop-position.position c.reference_of.ensures.reference c.loop-position.invariant

pub returns : goal.returns
returns c id =
    c.loop-position.invariant id
    (ap (list_any (λ r. r.id == id)) (drop_all c.loop-position.position (references c.args.bytes.now c.args.entry) (omega (arith, length-references c.args.bytes.now c.args.entry))))
