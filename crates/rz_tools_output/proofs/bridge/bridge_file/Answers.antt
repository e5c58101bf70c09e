use Rattle.std.proofs.Common.{List, map}
use Rattle.std.specs.FinMap as finite
use Rattle.std.specs.declared.result.Result.{Result}
use Rattle.rz_bridge.specs.declared.file.MacFile.{MacFile}
use Rattle.rz_bridge_files.specs.Names.{Named}
use Rattle.rz_core.specs.Answers.{Then}
use Rattle.rz_core.specs.declared.fault.Fault.{Fault}
use Rattle.rz_folder.proofs.Finding.{finds_end, finds_fault, finds_stop, finds_then, finds_value, seen_end}
use Rattle.rz_folder.specs.Folder.{Files}
use Rattle.rz_folder.proofs.Present.{unplaced}
use Rattle.rz_tools_answer.specs.Answer.{Write}
use Rattle.rz_tools_answer.specs.Plan.{write_of}
use Rattle.rz_tools_answer.specs.WellFormed.{AreWritable}
use Rattle.rz_tools_answer.specs.declared.plan.Write as code
use Rattle.rz_tools_output.specs.Bridge.{bridge, writes_of, BridgeAsked, IsRead, IsWrittenAs}
use Rattle.rz_tools_output.proofs.bridge.bridge_file.Goals as goal

abbrev Reads : BridgeAsked → Files → Result MacFile Fault → Type 0
Reads asked files = IsRead asked files (finite.get files asked.file)

abbrev Writes : BridgeAsked → Files → MacFile → Result (List Write) Fault → Type 0
Writes asked files file = Then (Named asked.to asked.output file) (IsWrittenAs asked)

pub returns-in_err-file : goal.returns-in_err-file
returns-in_err-file g c =
    let asked = bridge c.args.words.now in
    let result = c.from_residual.result in
    finds_stop g.F.Folder (Reads asked) (Writes asked) (writes_of result) (seen_end (map write_of) result _ c.from_residual.ensures.1) c.in_err-file.ensures

pub returns-in_err-written_as : goal.returns-in_err-written_as
returns-in_err-written_as g c =
    let asked = bridge c.args.words.now in
    let file = c.in_ok-file.file in
    let result = c.from_residual-in_err-written_as.result in
    finds_then g.F.Folder (Reads asked) (Writes asked) c.in_ok-file.ensures
    (finds_end g.F.Folder (writes_of result) (seen_end (map write_of) result _ c.from_residual-in_err-written_as.ensures.1)
    (finds_fault g.F.Folder (Then (Named asked.to asked.output file) (IsWrittenAs asked)) AreWritable c.in_err-written_as.field-0.0 c.in_err-written_as.ensures.writes
    (unplaced (List code.Write) (List Write) c.in_err-written_as.field-0.0 c.in_err-written_as.ensures.nameable)))

pub returns : goal.returns
returns g c =
    let asked = bridge c.args.words.now in
    let file = c.in_ok-file.file in
    finds_then g.F.Folder (Reads asked) (Writes asked) c.in_ok-file.ensures
    (finds_value g.F.Folder (Then (Named asked.to asked.output file) (IsWrittenAs asked)) AreWritable (map write_of c.in_ok-written_as.field-0) c.in_ok-written_as.ensures.writes
    c.in_ok-written_as.ensures.writable)
