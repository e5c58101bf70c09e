use Rattle.std.proofs.Common.{◌≡◌, drop}
use Rattle.rz_types_fields.specs.Place.{may_have_arguments, may_stand}
use Rattle.rz_types_fields.specs.Text.{arguments_of, plain_arguments, plain_parts}
use Rattle.rz_types_fields.proofs.place.+places.Given as goal

abbrev pub invariant-may_stand-loop-part : goal.invariant-may_stand-loop-part
invariant-may_stand-loop-part l = may_stand l.place (plain_parts (drop l.part-index l.part-items)) ≡ may_stand l.place (plain_parts l.part-items)

abbrev pub invariant-may_have_arguments-loop-argument : goal.invariant-may_have_arguments-loop-argument
invariant-may_have_arguments-loop-argument l =
    may_have_arguments l.place (arguments_of (plain_arguments (drop l.argument-index l.argument-items))) ≡ may_have_arguments l.place (arguments_of (plain_arguments l.argument-items))
