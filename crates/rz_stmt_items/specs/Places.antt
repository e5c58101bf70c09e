-- In which files items stand.
use Rattle.std.specs.Prelude.{ℕ, ◌<◌, List}
use Rattle.std.specs.List.{AllByRecursion}
use Rattle.rz_stmt_items.specs.Item.{more, none, Braced, Named, Number, PlainItem, PlainItems, Text}

-- an item and all that is in it stand in some of so many files
abbrev mutual
  pub IsItemWithin : ℕ → PlainItem → Type 0
  IsItemWithin files (Number term mark) = mark.file < files
  IsItemWithin files (Text parts mark) = mark.file < files
  IsItemWithin files (Braced items mark) = (mark.file < files) × AreInside files items
  IsItemWithin files (Named name items mark) = (mark.file < files) × AreInside files items

  pub AreInside : ℕ → PlainItems → Type 0
  AreInside files none = Unit {0}
  AreInside files (more item items) = IsItemWithin files item × AreInside files items

abbrev pub AreItemsWithin : ℕ → List PlainItem → Type 0
AreItemsWithin files items = AllByRecursion (IsItemWithin files) items
