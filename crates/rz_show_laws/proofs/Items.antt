-- What printed items mean: their tokens, and the items of a `resource` statement that they are, wherever they stand. (MPW Rez.)
use Rattle.std.specs.Prelude.{◌≡◌, ℕ, suc, ℤ, pos, negsuc, true, List, [], ◌∷◌, map}
use Rattle.rz_core.specs.declared.fault.Mark.{Mark}
use Rattle.rz_expr.specs.Grammar.{bytes_number}
use Rattle.rz_expr.specs.Term.{Constant, Named, OfOne, Term}
use Rattle.rz_expr.specs.Value.{reduced}
use Rattle.rz_words.specs.Words.{is_name, role_of}
use Rattle.rz_expr.specs.declared.expr.UnaryOp.TheVariants as unary
use Rattle.rz_types_fields.specs.Text.{Plain}
use Rattle.rz_stmt_items.specs.Item as item
use Rattle.rz_stmt_items.specs.Item.{items_of, PlainItem}
use Rattle.rz_stmt_items.specs.Items.{AreItems}
use Rattle.rz_lex.specs.declared.token.Token.{Token}
use Rattle.rz_show_lines.specs.Print.{block, by_name, in_binary, in_decimal, in_group, in_hex, in_literal, in_octal, in_text, named_block, no_prints, pieces, print, single, Print, Prints, Single}

-- The items, whatever their marks are.

-- the expression of a number in decimal
abbrev pub signed_term : ℤ → Term
signed_term (pos number) = Constant (reduced (pos number))
signed_term (negsuc number) = OfOne unary.Minus (Constant (reduced (pos (suc number))))

-- an expression, somewhere
abbrev pub IsTermItem : Term → PlainItem → Type 0
IsTermItem term one = (mark : Mark) × (one ≡ item.Number term mark)

-- the numbers of a point or a rectangle
abbrev pub AreTermItems : List ℤ → List PlainItem → Type 0
AreTermItems [] items = items ≡ []
AreTermItems (number ∷ numbers) items =
    (first : PlainItem) × (more : List PlainItem) × (items ≡ first ∷ more) × IsTermItem (signed_term number) first × AreTermItems numbers more

abbrev pub IsSingleItem : Single → PlainItem → Type 0
IsSingleItem (in_decimal number) one = IsTermItem (signed_term number) one
IsSingleItem (in_hex digits number) one = IsTermItem (Constant (reduced (pos number))) one
IsSingleItem (in_octal number) one = IsTermItem (Constant (reduced (pos number))) one
IsSingleItem (in_binary digits number) one = IsTermItem (Constant (reduced (pos number))) one
IsSingleItem (in_literal bytes) one = IsTermItem (Constant (reduced (pos (bytes_number 0 bytes)))) one
IsSingleItem (in_text bytes) one = (mark : Mark) × (one ≡ item.Text (Plain bytes ∷ []) mark)
IsSingleItem (by_name name) one = IsTermItem (Named name) one
IsSingleItem (in_group numbers) one = (items : List PlainItem) × (mark : Mark) × (one ≡ item.Braced (items_of items) mark) × AreTermItems numbers items

abbrev mutual
  -- the item that is written so
  pub IsPrintedItem : Print → PlainItem → Type 0
  IsPrintedItem (single single_one) one = IsSingleItem single_one one
  IsPrintedItem (pieces hex first others) one = (mark : Mark) × (one ≡ item.Text (map (λ piece. Plain piece) (first ∷ others)) mark)
  IsPrintedItem (block prints) one = (items : List PlainItem) × (mark : Mark) × (one ≡ item.Braced (items_of items) mark) × ArePrintedItems prints items
  IsPrintedItem (named_block name prints) one =
      (items : List PlainItem) × (mark : Mark) × (one ≡ item.Named name (items_of items) mark) × ArePrintedItems prints items

  -- the items that are written so, in order
  pub ArePrintedItems : Prints → List PlainItem → Type 0
  ArePrintedItems no_prints items = items ≡ []
  ArePrintedItems (print one others) items =
      (first : PlainItem) × (more : List PlainItem) × (items ≡ first ∷ more) × IsPrintedItem one first × ArePrintedItems others more

-- tokens that are such items
pub record AreReadBack (prints : Prints) (tokens : List Token) : Type 0 where
  pub items : List PlainItem
  pub are : AreItems tokens items
  pub meant : ArePrintedItems prints items

-- What may stand for itself.

-- a word that names what isn't necessarily a label: no keyword and no function
abbrev pub IsNaming : List ℕ → Type 0
IsNaming name = is_name (role_of name) ≡ true

abbrev pub IsNamingSingle : Single → Type 0
IsNamingSingle (by_name name) = IsNaming name
IsNamingSingle one = Unit {0}

abbrev mutual
  -- the names of symbols and cases in it are such words
  pub IsNamingPrint : Print → Type 0
  IsNamingPrint (single one) = IsNamingSingle one
  IsNamingPrint (pieces hex first others) = Unit {0}
  IsNamingPrint (block items) = AreNamingPrints items
  IsNamingPrint (named_block name items) = IsNaming name × AreNamingPrints items

  pub AreNamingPrints : Prints → Type 0
  AreNamingPrints no_prints = Unit {0}
  AreNamingPrints (print one others) = IsNamingPrint one × AreNamingPrints others
