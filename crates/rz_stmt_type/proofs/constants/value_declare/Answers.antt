use Rattle.rz_stmt_fields.specs.Form.{declare_form}
use Rattle.rz_stmt_type.proofs.CanSay.{say_result}
use Rattle.rz_stmt_type.proofs.constants.value_declare.Goals as goal

pub returns-clause-nameable : goal.returns-clause-nameable
returns-clause-nameable c files within = say_result files c.args.mark within (declare_form c.args.stmt) c.value_parts.result c.value_parts.ensures
