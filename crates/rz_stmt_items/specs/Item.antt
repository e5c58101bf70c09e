-- The items of a `resource` statement as contracts see them, without where their expressions lie in memory. (MPW Rez.)
use Rattle.std.specs.Prelude.{ℕ, List, [], ◌∷◌, map}
use Rattle.rz_core.specs.declared.fault.Mark.{Mark}
use Rattle.rz_expr.specs.Term.{term_of, Term}
use Rattle.rz_types_fields.specs.Text.{plain_parts, PlainPart}
use Rattle.rz_stmt_items.specs.declared.item.Item.{Item}
use Rattle.rz_stmt_items.specs.declared.item.Item.TheOpen.{Item-F}
use Rattle.rz_stmt_items.specs.declared.item.Item.TheFolds.{fold-Item}

-- an item with the place of its first token: a number, a text, items in braces, or a name and items in braces
mutual
  pub data PlainItem : Type 0 where
    Number : (term : Term) (mark : Mark) → PlainItem
    Text : (parts : List PlainPart) (mark : Mark) → PlainItem
    Braced : (items : PlainItems) (mark : Mark) → PlainItem
    Named : (name : List ℕ) (items : PlainItems) (mark : Mark) → PlainItem

  -- a list of items, as a type of its own
  pub data PlainItems : Type 0 where
    none : PlainItems
    more : (item : PlainItem) (items : PlainItems) → PlainItems

abbrev pub items_of : List PlainItem → PlainItems
items_of [] = none
items_of (item ∷ items) = more item (items_of items)

abbrev pub item_step : Item-F PlainItem → PlainItem
item_step (Item-F.Number expr mark) = Number (term_of expr) mark
item_step (Item-F.Text texts mark) = Text (plain_parts texts) mark
item_step (Item-F.List items mark) = Braced (items_of items) mark
item_step (Item-F.Named word items mark) = Named word.bytes (items_of items) mark

-- the plain item that an item is
abbrev pub plain_item : Item → PlainItem
plain_item item = fold-Item PlainItem item_step item

abbrev pub plain_items : List Item → List PlainItem
plain_items items = map plain_item items
