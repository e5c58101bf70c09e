use Rattle.std.proofs.Common.{◌≡◌, ◌≤◌, ◌++◌, ◌-◌, drop, length, take}
use Rattle.rz_catalog.specs.Leaves.{blank, leaves}
use Rattle.rz_catalog.specs.Put.{blank_rows, row_leaves}
use Rattle.rz_catalog.proofs.put.+put.Given as goal

abbrev pub invariant-put_row-loop-k : goal.invariant-put_row-loop-k
invariant-put_row-loop-k l = (l.k ≤ length l.row) × (blank l.copy ≡ blank (take l.k l.row)) × (length (leaves l.copy) ≡ length (leaves (take l.k l.row)))
    × (length (leaves l.row) ≤ length l.fn.texts → leaves l.copy ++ l.rest ≡ l.fn.texts)

abbrev pub decreases-put_row-loop-k : goal.decreases-put_row-loop-k
decreases-put_row-loop-k l = length l.row - l.k

abbrev pub invariant-put_rows-loop-k : goal.invariant-put_rows-loop-k
invariant-put_rows-loop-k l = (l.k ≤ length l.rows) × (blank_rows l.copies ≡ blank_rows (take l.k l.rows)) × (length (row_leaves l.copies) ≡ length (row_leaves (take l.k l.rows)))
    × (length (row_leaves l.rows) ≤ length l.fn.texts → row_leaves l.copies ++ l.rest ≡ l.fn.texts)

abbrev pub decreases-put_rows-loop-k : goal.decreases-put_rows-loop-k
decreases-put_rows-loop-k l = length l.rows - l.k

abbrev pub invariant-put_value-loop-number : goal.invariant-put_value-loop-number
invariant-put_value-loop-number l = l.copy ++ drop l.number-index l.number-items ≡ l.number-items
