use Rattle.std.proofs.Common.{◌≡◌, ℕ, List, ◌++◌, length, Ok}
use Rattle.std.specs.List.{flat_map}
use Rattle.rz_core.specs.Quoted.{shown_byte}
use Rattle.rz_told.specs.Puts.{PutsText}
use Rattle.rz_told.proofs.put.put_shown.Given as goal

abbrev pub invariant-pieces : goal.invariant-pieces
invariant-pieces g l = (front : List ℕ) × (l.bytes ≡ front ++ l.left) × PutsText g.O.Sink l.fn.out l.out (flat_map (shown_byte 34) front) (Ok tt)

abbrev pub decreases-pieces : goal.decreases-pieces
decreases-pieces g l = length l.left
