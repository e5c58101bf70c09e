use Rattle.std.proofs.Common.{map}
use Rattle.rz_tools_answer.specs.Plan.{write_of}
use Rattle.rz_tools_output.specs.Bridge.{bridge}
use Rattle.rz_tools_output.proofs.Bridging.{named_writes, raw_writes}
use Rattle.rz_tools_output.proofs.bridge.written_as.Goals as goal

pub returns-in_ok-raw_alone-in-Raw-clause-writes : goal.returns-in_ok-raw_alone-in-Raw-clause-writes
returns-in_ok-raw_alone-in-Raw-clause-writes c =
    raw_writes (bridge c.args.words.now) c.args.file c.in_ok-file.file c.in_ok-file.ensures.named c.in-Raw.is
    (map write_of c.in_ok-raw_alone-in-Raw.field-0) c.in_ok-raw_alone-in-Raw.ensures.writes

pub returns-in_ok-listed-in_default-clause-writes : goal.returns-in_ok-listed-in_default-clause-writes
returns-in_ok-listed-in_default-clause-writes c =
    named_writes (bridge c.args.words.now) c.args.file c.in_ok-file.file c.in_ok-file.ensures.named c.in_ok-bytes-in_default.bytes c.in_ok-bytes-in_default.ensures.bytes
    (map write_of c.in_ok-listed-in_default.field-0) c.in_ok-listed-in_default.ensures.writes
