use Rattle.std.proofs.lemmas.Result.{err_from_is_err_and}
use Rattle.std.proofs.Common.{Ok}
use Rattle.rz_tools.proofs.Showing.{file_fork, file_refused, holds_file, is_fork, is_fork_of}
use Rattle.rz_tools.proofs.derez.fork_of.Goals as goal

pub returns-in-Ok-clause-fork : goal.returns-in-Ok-clause-fork
returns-in-Ok-clause-fork c =
    file_fork c.args.from c.args.bytes c.new.result c.new.ensures c.in_ok-file.file c.in_ok-file.ensures.file (Ok c.in_ok-file.file.res_fork)
    (is_fork_of c.in_ok-file.file.res_fork _ c.as_slice.ensures c.in-Ok.ensures.ok)

pub returns-in-Ok-clause-held : goal.returns-in-Ok-clause-held
returns-in-Ok-clause-held c = holds_file c.args.from c.args.bytes c.new.result c.new.ensures c.in_ok-file.file c.in_ok-file.ensures.file c.in_ok-file.ensures.res_fork

pub returns-in-Ok-clause-admitted : goal.returns-in-Ok-clause-admitted
returns-in-Ok-clause-admitted c = is_fork c.in_ok-file.file.res_fork _ c.as_slice.ensures c.in_ok-file.ensures.res_fork.1 c.in-Ok.ensures.ok

pub returns-in_err-file-clause-fork : goal.returns-in_err-file-clause-fork
returns-in_err-file-clause-fork c =
    let p = err_from_is_err_and c.from_residual.result c.from_residual.ensures.1 in
    rw (p.1, p.2) (file_refused c.args.from c.args.bytes c.new.result c.new.ensures c.in_err-file.field-0.0 c.in_err-file.ensures.file)
