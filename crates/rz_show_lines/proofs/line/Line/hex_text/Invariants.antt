use Rattle.std.proofs.Common.{◌≡◌, ◌++◌, ◌∷◌, [], drop, take}
use Rattle.rz_core.specs.Lists.{with_front}
use Rattle.rz_show_lines.specs.Cut.{cut}
use Rattle.rz_show_lines.specs.Written.{grouped_byte, in_groups}
use Rattle.rz_show_lines.proofs.line.Line.hex_text.Given as goal

abbrev pub invariant-loop-k : goal.invariant-loop-k
invariant-loop-k l = cut (l.self ++ (with_front grouped_byte (take l.k l.bytes) (drop l.k l.bytes) ++ 34 ∷ [])) ≡ cut (l.fn.self ++ 36 ∷ 34 ∷ (in_groups l.bytes ++ 34 ∷ []))
