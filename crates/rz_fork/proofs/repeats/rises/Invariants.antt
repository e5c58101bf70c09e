use Rattle.std.proofs.Common.{ℕ, ◌+◌, ◌<◌, get_or}
use Rattle.rz_fork.proofs.repeats.rises.Given as goal

abbrev pub invariant-loop-position : goal.invariant-loop-position
invariant-loop-position l = (k : ℕ) → k + 1 < l.position → get_or l.numbers k 0 < get_or l.numbers (k + 1) 0
