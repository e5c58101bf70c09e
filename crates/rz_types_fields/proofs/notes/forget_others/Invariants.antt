use Rattle.std.proofs.Common.{◌-◌, length, take}
use Rattle.rz_types_fields.specs.Newest.{AreHeld}
use Rattle.rz_types_fields.proofs.notes.forget_others.Given as goal

abbrev pub invariant-loop-newer : goal.invariant-loop-newer
invariant-loop-newer l = AreHeld (take (length l.notes - l.newer) l.notes) l.places
