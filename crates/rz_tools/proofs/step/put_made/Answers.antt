use Rattle.std.proofs.Common.{◌≡◌, Ok, Err}
use Rattle.rz_tools_work.proofs.Calls.{halted_refuses, halted_unread, went_as}
use Rattle.rz_tools_work.specs.Put.{list_with}
use Rattle.rz_core.specs.Message.{IsNameable}
use Rattle.rz_tools.proofs.Stepping.{halt_is}
use Rattle.rz_tools.proofs.step.put_made.Goals as goal

pub returns-in_err-put-in-Ok-clause-put : goal.returns-in_err-put-in-Ok-clause-put
returns-in_err-put-in-Ok-clause-put c =
    let stop = c.in_err-put-in-Ok.field-0.0 in
    let result = c.from_residual.result in
    rw c.in-Ok.is
    (went_as (λ answer. answer ≡ list_with c.args.mark c.args.setting.over c.args.resources.now c.in-Ok.resource) (Err stop) result c.put.new.resources
    (halt_is stop result c.from_residual.ensures.1) c.in_err-put-in-Ok.ensures.put)

pub returns-in_err-put-in-Ok-clause-nameable : goal.returns-in_err-put-in-Ok-clause-nameable
returns-in_err-put-in-Ok-clause-nameable c files within made =
    let stop = c.in_err-put-in-Ok.field-0.0 in
    let result = c.from_residual.result in
    halted_refuses (Err stop) result (IsNameable files) (halt_is stop result c.from_residual.ensures.1) (c.in_err-put-in-Ok.ensures.nameable files within)

pub returns-in_err-put-in-Ok-clause-unread : goal.returns-in_err-put-in-Ok-clause-unread
returns-in_err-put-in-Ok-clause-unread c failed =
    let stop = c.in_err-put-in-Ok.field-0.0 in
    let result = c.from_residual.result in
    absurd (halted_unread (Err stop) result (halt_is stop result c.from_residual.ensures.1) failed)
