use Rattle.std.proofs.Common.{ℕ, List, Ok, Err, subst}
use Rattle.std.proofs.lemmas.Result.{err_from_is_err_and}
use Rattle.rz_core.specs.Stop.{Meets}
use Rattle.rz_core.specs.declared.resource.Resource.{Resource}
use Rattle.rz_tools_output.specs.Base.{base_with}
use Rattle.rz_tools_output.specs.Output.{target, IsOutput}
use Rattle.rz_tools.proofs.Restringing.{halts_as}
use Rattle.rz_tools.proofs.rez.write_resources.Goals as goal

pub returns-in_err-write_output-clause-output : goal.returns-in_err-write_output-clause-output
returns-in_err-write_output-clause-output c others =
    let into = target c.args.into.now in
    let base = base_with c.args.base others in
    let p = err_from_is_err_and c.from_residual-in_err-write_output.result c.from_residual-in_err-write_output.ensures.1 in
    rw (p.1, p.2) (halts_as (IsOutput into c.args.moment base c.args.resources) c.in_err-write_output.field-0.0
    (subst (λ (list : List Resource). Meets {X = List ℕ} (Err c.in_err-write_output.field-0.0) (IsOutput into c.args.moment base list)) c.in_ok-list.ensures.list (c.in_err-write_output.ensures.output others)))

pub returns-clause-output : goal.returns-clause-output
returns-clause-output c others =
    subst (λ (list : List Resource). IsOutput (target c.args.into.now) c.args.moment (base_with c.args.base others) list (Ok c.in_ok-write_output.field-0)) c.in_ok-list.ensures.list
    (c.in_ok-write_output.ensures.output others)
