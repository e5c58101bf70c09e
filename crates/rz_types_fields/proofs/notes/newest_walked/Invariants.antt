use Rattle.rz_expr.specs.NameKey.{key_of}
use Rattle.rz_types_fields.proofs.HeldNotes.{IsStill}
use Rattle.rz_types_fields.proofs.notes.newest_walked.Given as goal

abbrev pub invariant-loop-newer : goal.invariant-loop-newer
invariant-loop-newer l = IsStill l.told (key_of l.key) l.notes l.newer
