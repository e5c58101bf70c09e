use Rattle.std.proofs.Common.{◌≡◌, drop}
use Rattle.std.specs.Str.{str_to_ascii_lowercase}
use Rattle.rz_types_fields.specs.Newest.{code_from}
use Rattle.rz_types_fields.proofs.notes.name_code.Given as goal

abbrev pub invariant-loop-byte : goal.invariant-loop-byte
invariant-loop-byte l = code_from l.code (str_to_ascii_lowercase (drop l.byte-index l.bytes)) ≡ code_from l.kind (str_to_ascii_lowercase l.name.bytes)
