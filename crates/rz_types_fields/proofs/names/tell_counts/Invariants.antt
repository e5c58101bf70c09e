use Rattle.rz_types_fields.proofs.Fronts.{BackTells}
use Rattle.rz_types_fields.proofs.names.tell_counts.Given as goal

abbrev pub invariant-loop-later : goal.invariant-loop-later
invariant-loop-later l = BackTells l.fields l.fn.notes.items l.later l.notes.items
