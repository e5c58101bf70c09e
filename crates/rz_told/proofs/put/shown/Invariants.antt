use Rattle.std.proofs.Common.{◌≡◌, ℕ, List, ◌++◌, drop}
use Rattle.std.specs.List.{flat_map}
use Rattle.rz_core.specs.Quoted.{shown_byte}
use Rattle.rz_show_lines.specs.Cut.{cut}
use Rattle.rz_told.proofs.put.shown.Given as goal

abbrev pub invariant-loop-byte : goal.invariant-loop-byte
invariant-loop-byte l =
    (front : List ℕ) × (l.line ≡ cut front) × (front ++ flat_map (shown_byte 34) (drop l.byte-index l.piece) ≡ flat_map (shown_byte 34) l.piece)
