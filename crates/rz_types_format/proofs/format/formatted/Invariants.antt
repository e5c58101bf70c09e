use Rattle.std.proofs.Common.{◌≡◌, drop}
use Rattle.rz_types_format.specs.Filling.{given}
use Rattle.rz_types_format.specs.Format.{formatted}
use Rattle.rz_types_format.proofs.format.formatted.Given as goal

abbrev pub invariant-loop-byte : goal.invariant-loop-byte
invariant-loop-byte l = given l.filling (drop l.byte-index l.text) ≡ formatted l.text l.arguments
