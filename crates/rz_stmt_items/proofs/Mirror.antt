-- The plain item that each form of an item is, where it is built and where it is taken apart.
use Rattle.std.proofs.Common.{◌≡◌, List, sym, ap, ◌∙◌}
use Rattle.rz_core.specs.declared.fault.Mark.{Mark}
use Rattle.rz_core.specs.declared.resource.Word.{Word}
use Rattle.rz_expr.specs.Term.{term_of}
use Rattle.rz_expr.specs.declared.expr.Expr.{Expr}
use Rattle.rz_types_fields.specs.Text.{plain_parts}
use Rattle.rz_types_fields.specs.declared.text.TextPart.{TextPart}
use Rattle.rz_stmt_items.specs.Item as plain
use Rattle.rz_stmt_items.specs.Item.{item_step, items_of, plain_item, plain_items, PlainItem}
use Rattle.rz_stmt_items.specs.declared.item.Item.{Item}
use Rattle.rz_stmt_items.specs.declared.item.Item.TheFolds.{fold-roll-Item}
use Rattle.rz_stmt_items.specs.declared.item.Item.TheOpen.{Item-F}
use Rattle.rz_stmt_items.specs.declared.item.Item.TheVariants as items
use Rattle.rz_stmt_items.specs.declared.item.Item.TheVariants.{rolls-List, rolls-Named, rolls-Number, rolls-Text}

pub number_is : (expr : Expr) (mark : Mark) → plain_item (items.Number expr mark) ≡ plain.Number (term_of expr) mark
number_is expr mark = ap plain_item (sym (rolls-Number expr mark)) ∙ fold-roll-Item PlainItem item_step (Item-F.Number expr mark)

pub text_is : (texts : List TextPart) (mark : Mark) → plain_item (items.Text texts mark) ≡ plain.Text (plain_parts texts) mark
text_is texts mark = ap plain_item (sym (rolls-Text texts mark)) ∙ fold-roll-Item PlainItem item_step (Item-F.Text texts mark)

pub list_is : (inner : List Item) (mark : Mark) → plain_item (items.List inner mark) ≡ plain.Braced (items_of (plain_items inner)) mark
list_is inner mark = ap plain_item (sym (rolls-List inner mark)) ∙ fold-roll-Item PlainItem item_step (Item-F.List inner mark)

pub named_is : (name : Word) (inner : List Item) (mark : Mark) → plain_item (items.Named name inner mark) ≡ plain.Named name.bytes (items_of (plain_items inner)) mark
named_is name inner mark = ap plain_item (sym (rolls-Named name inner mark)) ∙ fold-roll-Item PlainItem item_step (Item-F.Named name inner mark)
