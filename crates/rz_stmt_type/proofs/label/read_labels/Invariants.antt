use Rattle.std.proofs.Common.{length, map}
use Rattle.rz_stmt_fields.specs.Form.{field_form}
use Rattle.rz_stmt_type.proofs.LabelLeads.{HavePassed}
use Rattle.rz_stmt_type.proofs.label.read_labels.Given as goal

abbrev pub invariant-loop-front : goal.invariant-loop-front
invariant-loop-front l = HavePassed l.fn.tokens l.rest (map field_form l.fn.body) (map field_form l.body)

abbrev pub decreases-loop-front : goal.decreases-loop-front
decreases-loop-front l = length l.rest
