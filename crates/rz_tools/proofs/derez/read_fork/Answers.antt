use Rattle.std.proofs.Common.{refl}
use Rattle.rz_tools.proofs.OfFiles.{file_absent, file_stop, file_then}
use Rattle.rz_tools.specs.DeRez.{HasFork}
use Rattle.rz_tools.proofs.derez.read_fork.Goals as goal

pub returns-in_err-bytes : goal.returns-in_err-bytes
returns-in_err-bytes g c =
    let name = c.args.name.now in
    file_absent g.F.Folder c.args.from name (HasFork c.args.from name) c.from_residual.result c.from_residual.ensures.1 refl c.in_err-bytes.ensures

pub returns-in_err-fork_of : goal.returns-in_err-fork_of
returns-in_err-fork_of g c =
    let name = c.args.name.now in
    file_stop g.F.Folder c.args.from name (HasFork c.args.from name) c.in_err-fork_of.field-0.0 c.from_residual-in_err-fork_of.result c.from_residual-in_err-fork_of.ensures.1
    c.in_ok-bytes.ensures c.in_err-fork_of.ensures.fork c.in_err-fork_of.ensures.nameable

pub returns : goal.returns
returns g c =
    let name = c.args.name.now in
    file_then g.F.Folder c.args.from name (HasFork c.args.from name) c.in_ok-fork_of.field-0 c.in_ok-bytes.ensures c.in_ok-fork_of.ensures.fork c.in_ok-fork_of.ensures.held
    c.in_ok-fork_of.ensures.admitted
