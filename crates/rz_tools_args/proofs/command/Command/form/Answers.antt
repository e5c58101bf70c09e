use Rattle.rz_tools_args.specs.Items.{forms_of}
use Rattle.rz_tools_args.proofs.Latest.{latest_more}
use Rattle.rz_tools_args.proofs.command.Command.form.Goals as goal

pub loop-one-preserved : goal.loop-one-preserved
loop-one-preserved c =
    latest_more (forms_of c.args.flag) c.as_slice-one-items.result.now c.loop-one.one-index c.one-item.result c.loop-one-test.true c.one-item.is
    c.form.result c.loop-one.latest c.or-latest.result c.form.ensures c.or-latest.ensures _ c.loop-one.invariant
