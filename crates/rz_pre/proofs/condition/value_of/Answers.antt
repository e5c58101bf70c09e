use Rattle.rz_expr.specs.Term.{term_of}
use Rattle.rz_pre.proofs.Computing.{behind_end, faulty, none_no_value}
use Rattle.rz_pre.proofs.condition.value_of.Goals as goal

pub returns-in_default : goal.returns-in_default
returns-in_default c = none_no_value c.args.tokens.now (rw c.in_default.is at c.in_ok-found.ensures.found)

pub returns-then-found-len : goal.returns-then-found-len
returns-then-found-len c =
    behind_end c.args.tokens.now c.in-Some.found.end (term_of c.in-Some.found.expr) (rw c.in-Some.is at c.in_ok-found.ensures.every)
    (rw c.len.ensures at c.if-found-len.true)

pub returns-in-Err-Refused : goal.returns-in-Err-Refused
returns-in-Err-Refused c =
    faulty c.args.tokens.now c.in-Some.found.end (term_of c.in-Some.found.expr) c.in-Err-Refused.fault (rw c.in-Some.is at c.in_ok-found.ensures.every)
    (rw c.in-Err-Refused.field-0-is at c.in-Err-Refused.ensures.value)
