-- The statements that the text of shown resources is, where it is read. (MPW Rez.)
use Rattle.std.specs.Prelude.{◌≡◌, ℕ, true, Bool, suc, ◌/◌, ◌%◌, ℤ, pos, negsuc, nat_le, ◌==◌, ◌&&◌, ◌||◌, not, if◌then◌else◌, List, [], ◌∷◌, ◌++◌, codes, map, Option, Some, None}
use Rattle.std.specs.List.{flat_map, list_any, AllByRecursion}
use Rattle.std.specs.Str.{bytes_eq}
use Rattle.rz_stmt_brackets.specs.Limit.{is_within_limits}
use Rattle.rz_stmt_brackets.specs.Statements.{IsStatement}
use Rattle.rz_core.specs.declared.facts.Facts.{Facts}
use Rattle.rz_core.specs.declared.resource.Resource.{Resource}
use Rattle.rz_stmt_data.specs.Head.{Attribute, Head, Set, Value}
use Rattle.rz_stmt_data.specs.Raw.{IsRaw, Raw}
use Rattle.rz_words.specs.Attribute.{bit_of, setting_word}
use Rattle.rz_expr.specs.Term.{Constant, OfOne, Term}
use Rattle.rz_words.specs.Words.{is_name, role_of}
use Rattle.rz_words.specs.declared.attribute.Attribute as words
use Rattle.rz_words.specs.declared.attribute.Attribute.TheVariants.{Changed, Locked, Preload, Protected, Purgeable, SystemHeap}
use Rattle.rz_expr.specs.declared.expr.UnaryOp.TheVariants as one
use Rattle.rz_types_fields.specs.Text.{Plain, PlainPart}
use Rattle.rz_types_fields.specs.declared.tree.Tree.{Tree}
use Rattle.rz_stmt_items.specs.Compile.{Compile, IsCompile}
use Rattle.rz_stmt_items.specs.Fits.{Fits}
use Rattle.rz_stmt_items.specs.Item.{PlainItem}
use Rattle.rz_lex.specs.Printed.{word_of}
use Rattle.rz_lex.specs.declared.token.Shape.{Shape}
use Rattle.rz_lex.specs.declared.token.Shape.TheVariants as shapes
use Rattle.rz_lex.specs.declared.token.Token.{Token}
use Rattle.rz_show_lines.specs.Page.{HasTokens}
use Rattle.rz_show.specs.Showing.{by_bytes, by_row, Showing}
use Rattle.rz_types.specs.Field.{PlainBody}

-- What the statement of a resource means, with its texts in these pieces.

abbrev pub id_term : ℤ → Term
id_term (pos n) = Constant (pos n)
id_term (negsuc n) = OfOne one.Minus (Constant (pos (suc n)))

abbrev pub text_parts : List (List ℕ) → List PlainPart
text_parts pieces = map (λ piece. Plain piece) pieces

-- an attribute that has a word, where its bit is set: its token, and what it means
abbrev pub attribute_part : ℕ → words.Attribute → List (Shape × Attribute)
attribute_part attr attribute = if attr / bit_of attribute % 2 == 1 then (word_of (setting_word attribute), Set (bit_of attribute)) ∷ [] else []

-- the attributes that are set: by their words, or as a number
abbrev pub attributes_of : ℕ → List (Shape × Attribute)
attributes_of attr =
    if attr == 0 then []
    else if nat_le 128 attr || (attr % 2 == 1) then (shapes.Number attr, Value (Constant (pos attr))) ∷ []
    else attribute_part attr SystemHeap ++ attribute_part attr Purgeable ++ attribute_part attr Locked
    ++ attribute_part attr Protected ++ attribute_part attr Preload ++ attribute_part attr Changed

abbrev pub name_part : List (List ℕ) → Option (List PlainPart)
name_part [] = None
name_part (piece ∷ pieces) = Some (text_parts (piece ∷ pieces))

abbrev pub shown_head : Resource → (name : List (List ℕ)) → Head
shown_head r name = record { id = id_term r.id; name = name_part name; attributes = map (λ a. a.1) (attributes_of r.attr) }

abbrev pub shown_raw : Resource → (name bytes : List (List ℕ)) → Raw
shown_raw r name bytes = record { kind = r.kind.code; head = shown_head r name; texts = text_parts bytes }

abbrev pub shown_compile : Resource → (name : List (List ℕ)) → List PlainItem → Compile
shown_compile r name items = record { kind = r.kind.code; head = shown_head r name; items = items }

-- tokens that are one statement, within its limits, and this `data` statement
pub record IsWhole (tokens : List Token) (raw : Raw) : Type 0 where
  pub statement : IsStatement tokens
  pub within : is_within_limits tokens ≡ true
  pub is : IsRaw tokens raw

-- tokens that are the `data` statement of a resource, whatever pieces its texts have
pub record IsWholeData (tokens : List Token) (r : Resource) : Type 0 where
  pub name : List (List ℕ)
  pub bytes : List (List ℕ)
  pub whole_name : flat_map (λ piece. piece) name ≡ r.name
  pub whole_bytes : flat_map (λ piece. piece) bytes ≡ r.bytes
  pub is : IsWhole tokens (shown_raw r name bytes)

-- tokens that are one statement, within its limits, and the `resource` statement of a resource with items that fit this
-- row, whatever pieces its name has
pub record IsWholeRow (tokens : List Token) (r : Resource) (body : PlainBody) (row : List Tree) : Type 0 where
  pub name : List (List ℕ)
  pub items : List PlainItem
  pub whole_name : flat_map (λ piece. piece) name ≡ r.name
  pub statement : IsStatement tokens
  pub within : is_within_limits tokens ≡ true
  pub is : IsCompile tokens (shown_compile r name items)
  pub fits : (known : Facts) → Fits known body items row

abbrev pub IsWholeOf : List Token → Showing → Type 0
IsWholeOf tokens (by_bytes resource) = IsWholeData tokens resource
IsWholeOf tokens (by_row resource body row) = IsWholeRow tokens resource body row

-- tokens that are these statements, one after the other
abbrev pub AreWhole : List Token → List Showing → Type 0
AreWhole tokens [] = tokens ≡ []
AreWhole tokens (first ∷ list) = (front : List Token) × (back : List Token) × (tokens ≡ front ++ back) × IsWholeOf front first × AreWhole back list

-- The text of a list.

-- the words of statements, of attributes and of truth, which are reserved
abbrev pub shown_words : List (List ℕ)
shown_words =
    codes "data" ∷ codes "resource" ∷ codes "sysheap" ∷ codes "purgeable" ∷ codes "locked" ∷ codes "protected" ∷ codes "preload" ∷ codes "changed"
    ∷ codes "true" ∷ codes "false" ∷ []

-- a word that is one of them, or a name that is no live macro; or no word
abbrev pub is_shown : (hidden : List ℕ → Bool) → Shape → Bool
is_shown hidden (shapes.Word word) = list_any (λ shown. bytes_eq shown word.bytes) shown_words || (is_name (role_of word.bytes) && not (hidden word.bytes))
is_shown hidden shape = true

-- the text is lines that are cut into tokens, and these are the statements, wherever they stand
pub record IsPrintedAs (hidden : List ℕ → Bool) (text : List ℕ) (list : List Showing) : Type 0 where
  pub tokens : List Shape
  pub has : HasTokens text tokens
  pub words : AllByRecursion (λ shape. is_shown hidden shape ≡ true) tokens
  pub statements : (read : List Token) → map (λ token. token.shape) read ≡ tokens → AreWhole read list
