use Rattle.rz_folder.proofs.Named.{utf8_more}
use Rattle.rz_folder.proofs.names.utf8_name.Goals as goal

pub loop-byte-preserved : goal.loop-byte-preserved
loop-byte-preserved c = utf8_more c.args.name.now c.loop-byte.byte-index _ _ c.from_roman.result c.loop-byte-test.true c.loop-byte.invariant c.in_ok-push.ensures.bytes c.from_roman.ensures
