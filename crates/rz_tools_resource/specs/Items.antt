-- What the files give that the texts of items name: it takes the place of the parts that name them, from left to right, or
-- the first fault is the answer. (MPW Rez.)
use Rattle.std.specs.Prelude.{ℕ, List, [], ◌∷◌, Ok}
use Rattle.std.specs.declared.result.Result.{Result}
use Rattle.rz_core.specs.Stop.{◌>>=◌}
use Rattle.rz_core.specs.declared.facts.Facts.{Facts}
use Rattle.rz_core.specs.declared.fault.Fault.{Fault}
use Rattle.rz_core.specs.declared.fault.Mark.{Mark}
use Rattle.rz_folder.specs.Folder.{Files}
use Rattle.rz_stmt_items.specs.Item.{more, none, plain_item, plain_items, Braced, Named, Number, PlainItem, PlainItems, Text}
use Rattle.rz_stmt_items.specs.declared.item.Item.{Item}
use Rattle.rz_tools_values.specs.Texts.{texts_read}

module _ (paths : List (List ℕ)) (files : Files) (mark : Mark) (known : Facts) where
  abbrev mutual
    pub item_read : PlainItem → Result PlainItem Fault
    item_read (Number term place) = Ok (Number term place)
    item_read (Text parts place) = texts_read paths files mark known parts >>= λ parts. Ok (Text parts place)
    item_read (Braced items place) = inner_read items >>= λ items. Ok (Braced items place)
    item_read (Named name items place) = inner_read items >>= λ items. Ok (Named name items place)

    pub inner_read : PlainItems → Result PlainItems Fault
    inner_read none = Ok none
    inner_read (more item items) = item_read item >>= λ item. inner_read items >>= λ items. Ok (more item items)

  -- the items of a statement, from left to right
  abbrev pub items_read : List PlainItem → Result (List PlainItem) Fault
  items_read [] = Ok []
  items_read (item ∷ items) = item_read item >>= λ item. items_read items >>= λ items. Ok (item ∷ items)

-- What the code gives.

abbrev pub items_given : Result (List Item) Fault → Result (List PlainItem) Fault
items_given given = given >>= λ items. Ok (plain_items items)

abbrev pub item_given : Result Item Fault → Result PlainItem Fault
item_given given = given >>= λ item. Ok (plain_item item)
