-- Items without braces: texts and numbers. (MPW Rez.)
use Rattle.std.specs.Prelude.{◌≡◌, Bool, true, false, List}
use Rattle.rz_core.specs.declared.fault.Mark.{Mark}
use Rattle.rz_stmt_data.specs.Texts.{begins_text, IsText}
use Rattle.rz_expr.specs.Grammar.{IsExpression}
use Rattle.rz_expr.specs.Term.{Term}
use Rattle.rz_types_fields.specs.Text.{PlainPart}
use Rattle.rz_types_fields.specs.Value.{is_item_expression}
use Rattle.rz_types_fields.specs.declared.place.TextPlace.TheVariants as places
use Rattle.rz_lex.specs.declared.token.Token.{Token}
use Rattle.rz_stmt_items.specs.Item as item
use Rattle.rz_stmt_items.specs.Item.{PlainItem}

-- the tokens are this expression, and it may stand in an item
abbrev pub IsItemExpression : List Token → Term → Type 0
IsItemExpression tokens term = IsExpression tokens term × (is_item_expression term ≡ true)

abbrev pub IsTextItem : Mark → List Token → PlainItem → Type 0
IsTextItem mark tokens one = (parts : List PlainPart) × IsText places.Item tokens parts × (one ≡ item.Text parts mark)

abbrev pub IsNumberItem : Mark → List Token → PlainItem → Type 0
IsNumberItem mark tokens one = (term : Term) × IsItemExpression tokens term × (one ≡ item.Number term mark)

-- a text where one begins there, or else a number
abbrev pub IsSimpleBy : Bool → Mark → List Token → PlainItem → Type 0
IsSimpleBy true mark tokens one = IsTextItem mark tokens one
IsSimpleBy false mark tokens one = IsNumberItem mark tokens one

abbrev pub IsSimple : Mark → List Token → PlainItem → Type 0
IsSimple mark tokens = IsSimpleBy (begins_text tokens) mark tokens
