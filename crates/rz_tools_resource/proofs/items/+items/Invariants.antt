use Rattle.std.proofs.Common.{◌≡◌, ◌++◌, ℕ, Some}
use Rattle.rz_folder.specs.Folder.{Files}
use Rattle.rz_folder.specs.OnlyReads.{OnlyReads}
use Rattle.rz_stmt_items.specs.Item.{plain_items}
use Rattle.rz_stmt_items.specs.Places.{AreItemsWithin}
use Rattle.rz_tools_resource.proofs.Reading.{Leads}
use Rattle.rz_tools_resource.proofs.items.+items.Given as goal

abbrev pub invariant-read_items-loop-item : goal.invariant-read_items-loop-item
invariant-read_items-loop-item g l = record {
  leads : (files : Files) → g.F.Folder.files l.fn.folder ≡ Some files
      → Leads l.paths files l.mark l.known (plain_items l.fn.items) (plain_items l.made) (plain_items l.item-iterator.rest.items);
  within : (files : ℕ) → AreItemsWithin files (plain_items l.fn.items) → AreItemsWithin files (plain_items l.made) × AreItemsWithin files (plain_items l.item-iterator.rest.items);
  reads : OnlyReads g.F.Folder l.fn.folder l.folder ⊥;
  rest : l.fn.items ≡ l.yielded ++ l.item-iterator.rest.items;
}
