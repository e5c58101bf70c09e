use Rattle.std.proofs.Common.{◌≡◌, length, ◌-◌, ◌≤◌, take}
use Rattle.rz_catalog.proofs.same.+same.Given as goal

abbrev pub invariant-same_row-loop-k : goal.invariant-same_row-loop-k
invariant-same_row-loop-k l = (length l.one ≡ length l.other) × (l.k ≤ length l.one) × (take l.k l.one ≡ take l.k l.other)

abbrev pub decreases-same_row-loop-k : goal.decreases-same_row-loop-k
decreases-same_row-loop-k l = length l.one - l.k

abbrev pub invariant-same_rows-loop-k : goal.invariant-same_rows-loop-k
invariant-same_rows-loop-k l = (length l.one ≡ length l.other) × (l.k ≤ length l.one) × (take l.k l.one ≡ take l.k l.other)

abbrev pub decreases-same_rows-loop-k : goal.decreases-same_rows-loop-k
decreases-same_rows-loop-k l = length l.one - l.k
