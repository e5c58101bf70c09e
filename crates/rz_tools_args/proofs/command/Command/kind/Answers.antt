use Rattle.rz_tools_args.specs.Items.{kinds_of}
use Rattle.rz_tools_args.proofs.Latest.{latest_more}
use Rattle.rz_tools_args.proofs.command.Command.kind.Goals as goal

pub loop-one-preserved : goal.loop-one-preserved
loop-one-preserved c =
    latest_more (kinds_of c.args.flag) c.as_slice-one-items.result.now c.loop-one.one-index c.one-item.result c.loop-one-test.true c.one-item.is
    c.kind.result c.loop-one.latest c.or-latest.result c.kind.ensures c.or-latest.ensures _ c.loop-one.invariant
