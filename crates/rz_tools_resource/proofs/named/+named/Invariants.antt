use Rattle.std.proofs.Common.{◌≡◌, drop}
use Rattle.rz_stmt_items.specs.Item.{items_of, plain_items}
use Rattle.rz_tools_resource.specs.Named.{items_name}
use Rattle.rz_tools_resource.proofs.named.+named.Given as goal

abbrev pub invariant-items_name-loop-item : goal.invariant-items_name-loop-item
invariant-items_name-loop-item l = items_name (items_of (plain_items (drop l.item-index l.items))) ≡ items_name (items_of (plain_items l.items))
