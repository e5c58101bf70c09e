-- Which items name a file. (MPW Rez.)
use Rattle.std.specs.Prelude.{Bool, false, ◌||◌}
use Rattle.rz_stmt_items.specs.Item.{more, none, Braced, Named, Number, PlainItem, PlainItems, Text}
use Rattle.rz_tools_values.specs.Named.{texts_name}

-- a text of the item names one, or a text of the items within it
abbrev mutual
  pub item_names : PlainItem → Bool
  item_names (Number term mark) = false
  item_names (Text parts mark) = texts_name parts
  item_names (Braced items mark) = items_name items
  item_names (Named name items mark) = items_name items

  pub items_name : PlainItems → Bool
  items_name none = false
  items_name (more item items) = item_names item || items_name items
