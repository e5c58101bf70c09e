use Rattle.std.proofs.lemmas.Result.{err_from_is_err_and}
use Rattle.rz_pre.specs.Live.{live_in}
use Rattle.rz_pre.specs.Macros.{rows_of}
use Rattle.rz_pre.specs.declared.act.Act.{Act}
use Rattle.rz_pre.proofs.Placing.{cut_on, replaced_nameable}
use Rattle.rz_pre.proofs.line.put_out.Goals as goal

pub returns-in_err-replaced-clause-nameable : goal.returns-in_err-replaced-clause-nameable
returns-in_err-replaced-clause-nameable c =
    let p = err_from_is_err_and c.from_residual-in_err-replaced.result c.from_residual-in_err-replaced.ensures.1 in
    rw (p.1, p.2) (replaced_nameable Act c.args.line.now.mark (live_in (rows_of c.args.macros.now)) c.in_ok-tokens.tokens c.in_err-replaced.field-0.0
    c.in_err-replaced.ensures (cut_on c.args.line.now.mark c.args.line.now.bytes c.in_ok-tokens.tokens c.in_ok-tokens.ensures.act))
