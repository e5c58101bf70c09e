-- The items of a `resource` statement, with `,` or `;` between them. (MPW Rez.)
use Rattle.std.specs.Prelude.{◌≡◌, ℕ, false, if◌then◌else◌, List, [], ◌∷◌, Option, Some, None}
use Rattle.rz_stmt_brackets.specs.Bracket.{begins, IsBracketed}
use Rattle.rz_stmt_brackets.specs.Pieces.{AreCut, Parted}
use Rattle.rz_stmt_brackets.specs.declared.bracket.Bracket.TheVariants.{Curly}
use Rattle.rz_stmt_brackets.specs.declared.pieces.Divider.TheVariants.{Separator}
use Rattle.rz_words.specs.Words.{is_name, role_of}
use Rattle.rz_lex.specs.declared.token.Shape.{Shape}
use Rattle.rz_lex.specs.declared.token.Shape.TheVariants as shapes
use Rattle.rz_lex.specs.declared.token.Token.{Token}
use Rattle.rz_stmt_items.specs.Item as item
use Rattle.rz_stmt_items.specs.Item.{items_of, PlainItem}
use Rattle.rz_stmt_items.specs.Simple.{IsSimple}

-- the name that a token is: that of a label, or of what is none
abbrev pub name_in : Shape → Option (List ℕ)
name_in (shapes.Word word) = if is_name (role_of word.bytes) then Some word.bytes else None
name_in shape = None

-- the name that stands before items in braces
abbrev pub name_before : Shape → List Token → Option (List ℕ)
name_before shape behind = if begins Curly behind then name_in shape else None

-- pieces without the last of them, where that is empty: a separator may stand after the last item
abbrev pub stripped : List (List Token) → List (List Token)
stripped [] = []
stripped ([] ∷ []) = []
stripped ((token ∷ tokens) ∷ []) = (token ∷ tokens) ∷ []
stripped (piece ∷ next ∷ pieces) = piece ∷ stripped (next ∷ pieces)

mutual
  -- the tokens are this item: items in braces, a name and items in braces, or neither. The first tokens tell which.
  pub data IsItem : List Token → PlainItem → Type 0 where
    listed : (first : Token) (rest : List Token) (parted : Parted) (items : List PlainItem)
        → IsBracketed Curly (first ∷ rest) parted → parted.behind ≡ [] → AreItems parted.front items
        → IsItem (first ∷ rest) (item.Braced (items_of items) first.mark)
    named : (first : Token) (rest : List Token) (name : List ℕ) (parted : Parted) (items : List PlainItem)
        → name_in first.shape ≡ Some name → IsBracketed Curly rest parted → parted.behind ≡ [] → AreItems parted.front items
        → IsItem (first ∷ rest) (item.Named name (items_of items) first.mark)
    simple : (first : Token) (rest : List Token) (one : PlainItem)
        → begins Curly (first ∷ rest) ≡ false → name_before first.shape rest ≡ None → IsSimple first.mark (first ∷ rest) one
        → IsItem (first ∷ rest) one

  -- the tokens are these items: each piece between separators is one, but for an empty last piece
  pub data AreItems : List Token → List PlainItem → Type 0 where
    cut : (tokens : List Token) (pieces : List (List Token)) (items : List PlainItem)
        → AreCut Separator tokens pieces → AreEach (stripped pieces) items → AreItems tokens items

  -- each piece is an item
  pub data AreEach : List (List Token) → List PlainItem → Type 0 where
    no_more : AreEach [] []
    one_more : (piece : List Token) (pieces : List (List Token)) (one : PlainItem) (items : List PlainItem)
        → IsItem piece one → AreEach pieces items → AreEach (piece ∷ pieces) (one ∷ items)

-- the tokens are items in braces, and nothing after them
abbrev pub AreBraced : List Token → List PlainItem → Type 0
AreBraced tokens items = (parted : Parted) × IsBracketed Curly tokens parted × (parted.behind ≡ []) × AreItems parted.front items
