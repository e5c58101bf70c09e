use Rattle.std.proofs.Common.{◌+◌, ◌*◌, ◌≤◌, length}
use Rattle.rz_stmt_items.specs.Item.{plain_items}
use Rattle.rz_stmt_items.proofs.Each.{Leads}
use Rattle.rz_stmt_items.proofs.items.+items.Given as goal

abbrev pub decreases-read_items : goal.decreases-read_items
decreases-read_items l = 4 * length l.tokens.now + 3

abbrev pub decreases-read_item : goal.decreases-read_item
decreases-read_item l = 4 * length l.tokens.now + 2

abbrev pub decreases-read_braced : goal.decreases-read_braced
decreases-read_braced l = 4 * length l.tokens.now + 1

abbrev pub invariant-read_items-loop-split : goal.invariant-read_items-loop-split
invariant-read_items-loop-split l = record { leads : Leads l.tokens l.rest (plain_items l.items); short : length l.rest ≤ length l.tokens }

abbrev pub decreases-read_items-loop-split : goal.decreases-read_items-loop-split
decreases-read_items-loop-split l = length l.rest
