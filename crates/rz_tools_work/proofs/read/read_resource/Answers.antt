use Rattle.std.proofs.lemmas.Option.{IfSome_then}
use Rattle.std.proofs.lemmas.Result.{err_from_is_err_and}
use Rattle.rz_core.specs.Message.{IsNameable}
use Rattle.rz_stmt_lists.specs.Read.{read_of}
use Rattle.rz_core.specs.Stop.{IsReadFault}
use Rattle.rz_tools_values.specs.Around.{around}
use Rattle.rz_tools_work.specs.Put.{list_with}
use Rattle.rz_tools_work.specs.Read.{resource_read}
use Rattle.rz_tools_values.proofs.Calls.{reads_first}
use Rattle.rz_tools_work.proofs.Calls.{halted_refuses, halted_unread, went_halt, went_on}
use Rattle.rz_tools_work.proofs.read.read_resource.Goals as goal

pub returns-clause-read : goal.returns-clause-read
returns-clause-read g c = IfSome_then (g.F.Folder.files c.args.folder.now) c.in_ok-resource.ensures.read (λ files yields.
    went_on (resource_read (around c.args.around.setting c.args.around.paths.now files) c.args.around.mark (read_of c.args.stmt.now)) (list_with c.args.around.mark c.args.around.setting.over c.args.resources.now)
    c.in_ok-resource.resource c.put.result c.halted.result c.put.new.resources yields c.halted.ensures c.put.ensures.put)

pub returns-clause-nameable : goal.returns-clause-nameable
returns-clause-nameable g c files within = halted_refuses c.put.result c.halted.result (IsNameable files) c.halted.ensures (c.put.ensures.nameable files within)

pub returns-clause-reads : goal.returns-clause-reads
returns-clause-reads g c =
    reads_first g.F.Folder c.args.folder.now c.resource_read.new.folder (IsReadFault c.halted.result)
    (halted_unread c.put.result c.halted.result c.halted.ensures) c.in_ok-resource.ensures.reads

pub returns-in_err-resource-clause-read : goal.returns-in_err-resource-clause-read
returns-in_err-resource-clause-read g c = IfSome_then (g.F.Folder.files c.args.folder.now) c.in_err-resource.ensures.read (λ files yields.
    let p = err_from_is_err_and c.from_residual.result c.from_residual.ensures.1 in
    rw (p.1, p.2) (went_halt (resource_read (around c.args.around.setting c.args.around.paths.now files) c.args.around.mark (read_of c.args.stmt.now)) (list_with c.args.around.mark c.args.around.setting.over c.args.resources.now)
    c.in_err-resource.field-0.0 c.args.resources.now yields))
