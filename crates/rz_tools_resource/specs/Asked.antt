-- Which files items name, each by its name in Mac Roman. (MPW Rez.)
use Rattle.std.specs.Prelude.{◌⊎◌, ℕ, List}
use Rattle.rz_stmt_items.specs.Item.{items_of, more, none, Braced, Named, Number, PlainItem, PlainItems, Text}
use Rattle.rz_tools_values.specs.Asked.{TextsAsk}

-- a text of the item names the file, or a text of the items within it
abbrev mutual
  pub ItemAsks : PlainItem → List ℕ → Type 0
  ItemAsks (Number term mark) own = ⊥
  ItemAsks (Text parts mark) own = TextsAsk parts own
  ItemAsks (Braced items mark) own = InnerAsk items own
  ItemAsks (Named name items mark) own = InnerAsk items own

  pub InnerAsk : PlainItems → List ℕ → Type 0
  InnerAsk none own = ⊥
  InnerAsk (more item items) own = ItemAsks item own ⊎ InnerAsk items own

-- one of the items names it
abbrev pub ItemsAsk : List PlainItem → List ℕ → Type 0
ItemsAsk items = InnerAsk (items_of items)
