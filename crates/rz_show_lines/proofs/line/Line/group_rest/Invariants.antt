use Rattle.std.proofs.Common.{◌≡◌, ◌++◌, drop, map}
use Rattle.rz_show_lines.specs.Cut.{cut}
use Rattle.rz_show_lines.specs.Print.{group_rest, signed_number}
use Rattle.rz_show_lines.specs.Written.{line_text}
use Rattle.rz_show_lines.proofs.line.Line.group_rest.Given as goal

abbrev pub invariant-loop-number : goal.invariant-loop-number
invariant-loop-number l =
    cut (l.self ++ line_text (group_rest (map (signed_number 16) (drop l.number-index l.numbers)))) ≡ cut (l.fn.self ++ line_text (group_rest (map (signed_number 16) l.numbers)))
