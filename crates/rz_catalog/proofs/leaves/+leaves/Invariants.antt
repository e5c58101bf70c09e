use Rattle.std.proofs.Common.{◌≡◌, ◌++◌, ◌-◌, ◌≤◌, length, drop, take}
use Rattle.rz_catalog.specs.Leaves.{leaves}
use Rattle.rz_catalog.specs.Put.{row_leaves}
use Rattle.rz_catalog.proofs.leaves.+leaves.Given as goal

abbrev pub invariant-append_leaves-loop-value : goal.invariant-append_leaves-loop-value
invariant-append_leaves-loop-value l = l.into ++ leaves (drop l.value-index l.value-items) ≡ l.fn.into ++ leaves l.value-items

abbrev pub invariant-append_rows-loop-k : goal.invariant-append_rows-loop-k
invariant-append_rows-loop-k l = (l.k ≤ length l.rows) × (l.into ≡ l.fn.into ++ row_leaves (take l.k l.rows))

abbrev pub decreases-append_rows-loop-k : goal.decreases-append_rows-loop-k
decreases-append_rows-loop-k l = length l.rows - l.k
