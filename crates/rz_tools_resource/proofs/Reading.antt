-- What the files give that items name, one item at a time.
use Rattle.std.proofs.Common.{◌≡◌, ◌<◌, ℕ, List, [], ◌∷◌, ◌++◌, Ok, Err, refl, sym, ap, subst, ◌∙◌, append_assoc, append-nil}
use Rattle.std.specs.declared.result.Result.{Result}
use Rattle.rz_core.specs.Stop.{◌>>=◌}
use Rattle.rz_core.specs.declared.facts.Facts.{Facts}
use Rattle.rz_core.specs.declared.fault.Fault.{Fault}
use Rattle.rz_core.specs.declared.fault.Mark.{Mark}
use Rattle.rz_core.specs.declared.resource.Word.{Word}
use Rattle.rz_folder.specs.Folder.{Files}
use Rattle.rz_stmt_items.proofs.Mirror.{list_is, named_is}
use Rattle.rz_stmt_items.specs.Item as plain
use Rattle.rz_stmt_items.specs.Item.{items_of, more, plain_item, plain_items, PlainItem, PlainItems}
use Rattle.rz_stmt_items.specs.Places.{AreInside, AreItemsWithin, IsItemWithin}
use Rattle.rz_stmt_items.specs.declared.item.Item.{Item}
use Rattle.rz_stmt_items.specs.declared.item.Item.TheVariants as items
use Rattle.rz_tools_resource.specs.Items.{inner_read, item_given, item_read, items_given, items_read}

module _ (paths : List (List ℕ)) (files : Files) (mark : Mark) (known : Facts) where
  -- Items one after the other.

  -- what is read of the items that are left, after what was made of those before, is what is read of all
  abbrev pub Leads : List PlainItem → List PlainItem → List PlainItem → Type 0
  Leads all made left = items_read paths files mark known all ≡ (items_read paths files mark known left >>= λ items. Ok (made ++ items))

  -- before the first
  pub none_made : (all made : List PlainItem) → made ≡ [] → Leads all made all
  none_made all made is = by (items_read paths files mark known all) ∙ ap (λ (l : List PlainItem). items_read paths files mark known all >>= λ items. Ok (l ++ items)) (sym is)
    where
      by : (answer : Result (List PlainItem) Fault) → answer ≡ (answer >>= λ items. Ok ([] ++ items))
      by (Ok items) = refl
      by (Err fault) = refl

  -- one more
  pub one_made : (all made left after : List PlainItem) (item value : PlainItem) → Leads all made (item ∷ left) → Ok value ≡ item_read paths files mark known item
      → after ≡ made ++ value ∷ [] → Leads all after left
  one_made all made left after item value leads gives grown =
      leads
      ∙ ap (λ (r : Result PlainItem Fault). (r >>= λ item. items_read paths files mark known left >>= λ items. Ok (item ∷ items)) >>= λ items. Ok (made ++ items)) (sym gives)
      ∙ by (items_read paths files mark known left)
      ∙ ap (λ (l : List PlainItem). items_read paths files mark known left >>= λ items. Ok (l ++ items)) (sym grown)
    where
      by : (answer : Result (List PlainItem) Fault) → ((answer >>= λ items. Ok (value ∷ items)) >>= λ items. Ok (made ++ items)) ≡ (answer >>= λ items. Ok ((made ++ value ∷ []) ++ items))
      by (Ok items) = ap (λ (l : List PlainItem). Ok l) (sym (append_assoc made (value ∷ []) items))
      by (Err fault) = refl

  -- one that stops all
  pub one_fault : (all made left : List PlainItem) (item : PlainItem) (fault : Fault) → Leads all made (item ∷ left) → Err fault ≡ item_read paths files mark known item
      → Err fault ≡ items_read paths files mark known all
  one_fault all made left item fault leads gives = sym (
      leads
      ∙ ap (λ (r : Result PlainItem Fault). (r >>= λ item. items_read paths files mark known left >>= λ items. Ok (item ∷ items)) >>= λ items. Ok (made ++ items)) (sym gives)
      )

  -- after the last
  pub all_made : (all made left : List PlainItem) → Leads all made left → left ≡ [] → Ok made ≡ items_read paths files mark known all
  all_made all made left leads none = sym (
      leads ∙ ap (λ (l : List PlainItem). items_read paths files mark known l >>= λ items. Ok (made ++ items)) none ∙ ap (λ (l : List PlainItem). Ok l) (append-nil made)
      )

  -- What stands within an item.

  -- items in braces, as a list
  inner_items : (items : List PlainItem) → inner_read paths files mark known (items_of items) ≡ (items_read paths files mark known items >>= λ items. Ok (items_of items))
  inner_items [] = refl
  inner_items (item ∷ items) = by (inner_items items) (item_read paths files mark known item)
    where
      behind : (one : PlainItem) (rest : Result (List PlainItem) Fault)
          → ((rest >>= λ items. Ok (items_of items)) >>= λ items. Ok (more one items)) ≡ ((rest >>= λ items. Ok (one ∷ items)) >>= λ items. Ok (items_of items))
      behind one (Ok items) = refl
      behind one (Err fault) = refl

      by : inner_read paths files mark known (items_of items) ≡ (items_read paths files mark known items >>= λ items. Ok (items_of items)) → (first : Result PlainItem Fault)
          → (first >>= λ item. inner_read paths files mark known (items_of items) >>= λ items. Ok (more item items))
          ≡ ((first >>= λ item. items_read paths files mark known items >>= λ items. Ok (item ∷ items)) >>= λ items. Ok (items_of items))
      by same (Ok one) = ap (λ (r : Result PlainItems Fault). r >>= λ items. Ok (more one items)) same ∙ behind one (items_read paths files mark known items)
      by same (Err fault) = refl

  -- The forms of an item that others stand in, by what was made of these.

  pub list_read : (item : Item) (inner : List Item) (place : Mark) → item ≡ items.List inner place → (answer : Result (List Item) Fault)
      → items_given answer ≡ items_read paths files mark known (plain_items inner)
      → item_given (answer >>= λ made. Ok (items.List made place)) ≡ item_read paths files mark known (plain_item item)
  list_read item inner place is answer gives =
      by answer ∙ ap (λ (r : Result (List PlainItem) Fault). (r >>= λ items. Ok (items_of items)) >>= λ items. Ok (plain.Braced items place)) gives
      ∙ ap (λ (r : Result PlainItems Fault). r >>= λ items. Ok (plain.Braced items place)) (sym (inner_items (plain_items inner)))
      ∙ ap (item_read paths files mark known) (sym (ap plain_item is ∙ list_is inner place))
    where
      by : (answer : Result (List Item) Fault)
          → item_given (answer >>= λ made. Ok (items.List made place)) ≡ ((items_given answer >>= λ items. Ok (items_of items)) >>= λ items. Ok (plain.Braced items place))
      by (Ok made) = ap (λ (one : PlainItem). Ok one) (list_is made place)
      by (Err fault) = refl

  pub named_read : (item : Item) (name : Word) (inner : List Item) (place : Mark) → item ≡ items.Named name inner place → (answer : Result (List Item) Fault)
      → items_given answer ≡ items_read paths files mark known (plain_items inner)
      → item_given (answer >>= λ made. Ok (items.Named name made place)) ≡ item_read paths files mark known (plain_item item)
  named_read item name inner place is answer gives =
      by answer ∙ ap (λ (r : Result (List PlainItem) Fault). (r >>= λ items. Ok (items_of items)) >>= λ items. Ok (plain.Named name.bytes items place)) gives
      ∙ ap (λ (r : Result PlainItems Fault). r >>= λ items. Ok (plain.Named name.bytes items place)) (sym (inner_items (plain_items inner)))
      ∙ ap (item_read paths files mark known) (sym (ap plain_item is ∙ named_is name inner place))
    where
      by : (answer : Result (List Item) Fault)
          → item_given (answer >>= λ made. Ok (items.Named name made place)) ≡ ((items_given answer >>= λ items. Ok (items_of items)) >>= λ items. Ok (plain.Named name.bytes items place))
      by (Ok made) = ap (λ (one : PlainItem). Ok one) (named_is name made place)
      by (Err fault) = refl

-- In which files items stand, when what stands in them is made anew.

module _ (files : ℕ) where
  pub within_more : (made : List PlainItem) (one : PlainItem) → AreItemsWithin files made → IsItemWithin files one → AreItemsWithin files (made ++ one ∷ [])
  within_more [] one stand last = (last, tt)
  within_more (first ∷ made) one stand last = (stand.0, within_more made one stand.1 last)

  inside_all : (items : List PlainItem) → AreItemsWithin files items → AreInside files (items_of items)
  inside_all [] stand = tt
  inside_all (item ∷ items) stand = (stand.0, inside_all items stand.1)

  all_inside : (items : List PlainItem) → AreInside files (items_of items) → AreItemsWithin files items
  all_inside [] stand = tt
  all_inside (item ∷ items) stand = (stand.0, all_inside items stand.1)

  pub list_within : (item : Item) (inner made : List Item) (place : Mark) → item ≡ items.List inner place → (AreItemsWithin files (plain_items inner) → AreItemsWithin files (plain_items made))
      → IsItemWithin files (plain_item item) → IsItemWithin files (plain_item (items.List made place))
  list_within item inner made place is so stand =
      let there : (place.file < files) × AreInside files (items_of (plain_items inner)) = subst (IsItemWithin files) (ap plain_item is ∙ list_is inner place) stand in
      subst (IsItemWithin files) (sym (list_is made place)) (there.0, inside_all (plain_items made) (so (all_inside (plain_items inner) there.1)))

  pub named_within : (item : Item) (name : Word) (inner made : List Item) (place : Mark) → item ≡ items.Named name inner place
      → (AreItemsWithin files (plain_items inner) → AreItemsWithin files (plain_items made)) → IsItemWithin files (plain_item item) → IsItemWithin files (plain_item (items.Named name made place))
  named_within item name inner made place is so stand =
      let there : (place.file < files) × AreInside files (items_of (plain_items inner)) = subst (IsItemWithin files) (ap plain_item is ∙ named_is name inner place) stand in
      subst (IsItemWithin files) (sym (named_is name made place)) (there.0, inside_all (plain_items made) (so (all_inside (plain_items inner) there.1)))
