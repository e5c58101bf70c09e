-- The contents of a resource, as many as one may have. (MPW Rez.)
use Rattle.std.specs.Prelude.{ℕ, pos, nat_lt, if◌then◌else◌, List, length, Ok, Err}
use Rattle.std.specs.declared.result.Result.{Result}
use Rattle.rz_core.specs.Stop.{◌>>=◌}
use Rattle.rz_core.specs.declared.facts.Facts.{Facts}
use Rattle.rz_core.specs.declared.fault.Fault.{Fault}
use Rattle.rz_core.specs.declared.fault.Mark.{Mark}
use Rattle.rz_core.specs.declared.resource.Resource.{Resource}
use Rattle.rz_types_fields.specs.Text.{bytes_of, PlainPart}
use Rattle.rz_tools_values.specs.Head.{keeps_number}

-- the most bytes of a resource
abbrev pub most_bytes : ℕ
most_bytes = 16777212

-- the bytes of a resource, as many as one may have: 301
abbrev pub short_bytes : Mark → List ℕ → Result (List ℕ) Fault
short_bytes mark bytes = if nat_lt most_bytes (length bytes) then Err (keeps_number 301 mark (pos (length bytes))) else Ok bytes

-- the contents that a text is
abbrev pub contents_of : Mark → Facts → List PlainPart → Result (List ℕ) Fault
contents_of mark known parts = bytes_of mark known parts >>= short_bytes mark

abbrev pub with_bytes : Facts → List ℕ → Resource
with_bytes known bytes = record { kind = known.kind; id = known.id; name = known.name; attr = known.attr; bytes = bytes }
