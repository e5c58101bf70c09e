use Rattle.std.proofs.Common.{refl}
use Rattle.rz_stmt_fields.specs.Form.{made_form}
use Rattle.rz_stmt_type.proofs.declare.read_for_any.Goals as goal

pub returns-in-Some : goal.returns-in-Some
returns-in-Some c = (made_form c.in-Some.made, rw c.in-Some.is at c.in_ok-made.ensures, refl)

pub returns-in-None : goal.returns-in-None
returns-in-None c parts is = let never = rw c.in-None.is at c.in_ok-made.ensures in never is.0 is.1
