use Rattle.std.proofs.Common.{◌≡◌, ◌++◌, length}
use Rattle.std.specs.List.{concat}
use Rattle.rz_show.proofs.show.text_of.Given as goal

abbrev pub invariant-lines : goal.invariant-lines
invariant-lines l = l.text ++ concat l.lines ≡ concat l.initial.lines

abbrev pub decreases-lines : goal.decreases-lines
decreases-lines l = length l.lines
