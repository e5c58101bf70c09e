use Rattle.rz_stmt_type.specs.Constants.{declare_of}
use Rattle.rz_stmt_fields.specs.Form.{declare_form}
use Rattle.rz_stmt.proofs.Parsed.{faulty, valued}
use Rattle.rz_stmt.proofs.grammar.parse_declare.Goals as goal

pub returns-in-Ok-clause-parsed : goal.returns-in-Ok-clause-parsed
returns-in-Ok-clause-parsed c =
    valued c.args.mark c.args.tokens.now (declare_form c.in-Some.stmt) (rw c.in-Some.is at c.in_ok-stmt.ensures) c.in-Ok.stmt c.in-Ok.ensures.value

pub returns-in-Err-clause-parsed : goal.returns-in-Err-clause-parsed
returns-in-Err-clause-parsed c =
    faulty c.args.mark c.args.tokens.now (declare_form c.in-Some.stmt) (rw c.in-Some.is at c.in_ok-stmt.ensures) c.in-Err.stop c.in-Err.ensures.value

pub returns-in-Ok-clause-shaped : goal.returns-in-Ok-clause-shaped
returns-in-Ok-clause-shaped c = λ lexed limits.
    c.declarations_are_shaped.ensures c.args.tokens.now (declare_form c.in-Some.stmt) c.args.mark (declare_of c.in-Ok.stmt) lexed limits (rw c.in-Some.is at c.in_ok-stmt.ensures) c.in-Ok.ensures.value
