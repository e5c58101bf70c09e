use Rattle.rz_types_fields.proofs.Fronts.{FrontHides}
use Rattle.rz_types_fields.proofs.names.hide_names.Given as goal

abbrev pub invariant-loop-field : goal.invariant-loop-field
invariant-loop-field l = FrontHides l.fields l.fn.notes.items l.field-index l.notes.items
