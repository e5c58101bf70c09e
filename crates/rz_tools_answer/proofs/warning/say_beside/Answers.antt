use Rattle.std.proofs.Common.{ℕ, List, Err, sym, subst}
use Rattle.std.proofs.lemmas.Result.{err_from_is_err_and}
use Rattle.std.specs.declared.result.Result.{Result}
use Rattle.rz_core.specs.declared.fault.Fault.{Fault}
use Rattle.rz_core.specs.declared.stop.Halt.{Halt}
use Rattle.rz_tools_answer.specs.Made.{IsBeside}
use Rattle.rz_tools_answer.proofs.Beside.{beside_bytes, beside_nothing}
use Rattle.rz_tools_answer.proofs.warning.say_beside.Goals as goal

pub returns-in_ok-said-in-Ok : goal.returns-in_ok-said-in-Ok
returns-in_ok-said-in-Ok c =
    beside_bytes c.args.files c.args.warnings.now c.args.output c.in-Ok.bytes c.in_ok-said-in-Ok.said c.in-Ok.is c.requires.warnings c.in_ok-said-in-Ok.ensures

pub returns-in_err-said-in-Ok : goal.returns-in_err-said-in-Ok
returns-in_err-said-in-Ok c =
    let p = err_from_is_err_and c.from_residual.result c.from_residual.ensures.1 in
    rw (p.1, p.2) (beside_nothing c.args.files c.args.warnings.now c.args.output (λ failed. cc (c.in-Ok.is, failed)))

pub returns-in-Err : goal.returns-in-Err
returns-in-Err c =
    subst (λ (o : Result (List ℕ) (Halt Fault)). IsBeside c.args.files c.args.warnings.now o (Err c.say_stop.result)) (sym c.in-Err.is) c.say_stop.ensures

pub say_stop-requires-clause-fault : goal.say_stop-requires-clause-fault
say_stop-requires-clause-fault c = rw c.in-Err.is at c.requires.fault
