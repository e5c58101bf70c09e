use Rattle.std.proofs.lemmas.Result.{err_from_is_err_and}
use Rattle.rz_tools_host.proofs.InMemory.{not_all}
use Rattle.rz_tools_host.proofs.mem_host.MemHostHost.args.Goals as goal

pub returns-in_err-text : goal.returns-in_err-text
returns-in_err-text c =
    let p = err_from_is_err_and c.from_residual.result c.from_residual.ensures.1 in
    rw (p.1, p.2) (not_all c.args.self.now.args.now c.loop-arg.arg-index _ c.loop-arg-test.true c.in_err-text.field-0.0 c.in_err-text.ensures)
