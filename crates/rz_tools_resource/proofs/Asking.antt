-- What one item asks for, all of them ask for; and what is asked for within one, it asks for.
use Rattle.std.proofs.Common.{◌≡◌, ◌<◌, ◌≤◌, ℕ, List, [], ◌∷◌, ◌++◌, inl, inr, sym, ap, subst, ◌∙◌, arith}
use denote.Param.Weighed.{most}
use Rattle.rz_core.specs.declared.fault.Mark.{Mark}
use Rattle.rz_core.specs.declared.resource.Word.{Word}
use Rattle.rz_types_fields.specs.Text.{plain_parts}
use Rattle.rz_types_fields.specs.declared.text.TextPart.{TextPart}
use Rattle.rz_stmt_items.proofs.Mirror.{list_is, named_is, text_is}
use Rattle.rz_stmt_items.specs.Item.{plain_item, plain_items, PlainItem}
use Rattle.rz_stmt_items.specs.declared.item.Item.{Item}
use Rattle.rz_stmt_items.specs.declared.item.Item.TheVariants as items
use Rattle.rz_stmt_items.specs.declared.item.Item.TheViews.{size-Item, sized-List, sized-Named}
use Rattle.rz_tools_values.proofs.Asking.{within}
use Rattle.rz_tools_values.specs.Asked.{TextsAsk}
use Rattle.rz_tools_resource.specs.Asked.{ItemAsks, ItemsAsk}

pub item_asks : (before : List Item) (item : Item) (after : List Item) (own : List ℕ) → ItemAsks (plain_item item) own → ItemsAsk (plain_items (before ++ item ∷ after)) own
item_asks [] item after own asks = inl asks
item_asks (first ∷ before) item after own asks = inr (item_asks before item after own asks)

module _ (item : Item) where
  pub text_asks : (texts : List TextPart) (mark : Mark) → item ≡ items.Text texts mark → (own : List ℕ) → TextsAsk (plain_parts texts) own → ItemAsks (plain_item item) own
  text_asks texts mark is own asks = subst (λ (one : PlainItem). ItemAsks one own) (sym (ap plain_item is ∙ text_is texts mark)) asks

  pub list_asks : (inner : List Item) (mark : Mark) → item ≡ items.List inner mark → (own : List ℕ) → ItemsAsk (plain_items inner) own → ItemAsks (plain_item item) own
  list_asks inner mark is own asks = subst (λ (one : PlainItem). ItemAsks one own) (sym (ap plain_item is ∙ list_is inner mark)) asks

  pub named_asks : (name : Word) (inner : List Item) (mark : Mark) → item ≡ items.Named name inner mark → (own : List ℕ) → ItemsAsk (plain_items inner) own → ItemAsks (plain_item item) own
  named_asks name inner mark is own asks = subst (λ (one : PlainItem). ItemAsks one own) (sym (ap plain_item is ∙ named_is name inner mark)) asks

-- How deep they lie.

pub item_within : (before rest all : List Item) (one : Item) → all ≡ before ++ one ∷ rest → size-Item one ≤ most size-Item all
item_within = within size-Item

pub inner_deeper : (item : Item) (inner : List Item) (mark : Mark) → item ≡ items.List inner mark → most size-Item inner < size-Item item
inner_deeper item inner mark is = omega (arith, ap size-Item is, sized-List inner mark)

pub named_deeper : (item : Item) (name : Word) (inner : List Item) (mark : Mark) → item ≡ items.Named name inner mark → most size-Item inner < size-Item item
named_deeper item name inner mark is = omega (arith, ap size-Item is, sized-Named name inner mark)
