use Rattle.std.proofs.Common.{◌≡◌, ◌++◌, ◌∷◌, [], drop}
use Rattle.std.specs.List.{flat_map}
use Rattle.rz_core.specs.Quoted.{quoted, shown_byte}
use Rattle.rz_show_lines.specs.Cut.{cut}
use Rattle.rz_show_lines.proofs.line.Line.text.Given as goal

abbrev pub invariant-loop-byte : goal.invariant-loop-byte
invariant-loop-byte l = cut (l.self ++ (flat_map (shown_byte 34) (drop l.byte-index l.bytes) ++ 34 ∷ [])) ≡ cut (l.fn.self ++ quoted 34 l.bytes)
