-- Statements that are put line by line: the lines that are still to come.
use Rattle.std.specs.Prelude.{◌≡◌, ℕ, ◌+◌, min, ◌<◌, ◌≤◌, nat_le, ◌==◌, if◌then◌else◌, Bool, true, false, List, [], ◌∷◌, ◌++◌, length, reverse, Option, Some, None, option_map}
use Rattle.std.specs.List.{AllByRecursion}
use Rattle.rz_lex.specs.declared.sign.Sign.TheVariants as signs
use Rattle.rz_types_fields.specs.declared.tree.Tree.{Tree}
use Rattle.rz_types.specs.Cases.{AreNamesApart, AreNamesApartIn}
use Rattle.rz_types.specs.Field.{field_and, no_fields, plain_body, plain_field, takes_value, PlainBody, PlainField}
use Rattle.rz_show.specs.declared.entry.Entry.{Entry}
use Rattle.rz_show.specs.declared.entry.Entry.TheVariants as entries
use Rattle.rz_show.specs.declared.items.Items.{Items}
use Rattle.rz_show.specs.declared.lines.Part.{Part}
use Rattle.rz_show.specs.declared.lines.Part.TheVariants as parts
use Rattle.rz_show.specs.declared.lines.Rest.{Rest}
use Rattle.rz_show.specs.declared.open_list.Item.{Item}
use Rattle.rz_show.specs.declared.open_list.OpenList.{OpenList}
use Rattle.rz_show_lines.specs.declared.text.Text.{Text}
use Rattle.rz_show_lines.specs.Cut.{cut, IsShort}
use Rattle.rz_show.specs.Head.{head_end, head_lines, name_lines}
use Rattle.rz_show_lines.specs.Head.{after_comma}
use Rattle.rz_show_lines.specs.Print.{block, comma, list_lines, margin, named_block, print, single, text_lines, Print, Prints}
use Rattle.rz_show.specs.Printable.{HasName, HasNames, HasWidth, HasWidths}
use Rattle.rz_show.specs.Shown.{field_print, row_prints, rows_prints, text_print}
use Rattle.rz_show.specs.Hidden.{hides_in}
use Rattle.rz_show_lines.specs.Single.{single_of}
use Rattle.rz_show.specs.Statement.{close_lines}
use Rattle.rz_show_lines.specs.Written.{a_blank, a_sign, a_text, a_word, as_line, Written}
use Rattle.rz_show.specs.Height.{heights}
use Rattle.rz_show_lines.specs.Texts.{pending_lines}

-- a line is given, and these are left
abbrev pub GivesLine : (line : List ℕ) → (before after : List (List Written)) → Type 0
GivesLine line before after = (one : List Written) × (before ≡ one ∷ after) × (line ≡ cut (as_line one))

abbrev pub comma_if : Bool → List Written
comma_if true = a_sign signs.Comma ∷ []
comma_if false = []

-- what opens a list: a brace, and a name before it, where there is one
abbrev pub opening : Option (List ℕ) → List Written
opening None = a_sign signs.OpenBrace ∷ []
opening (Some name) = a_word name ∷ a_blank ∷ a_sign signs.OpenBrace ∷ []

-- Heads.

-- what stands after the id on the first line: a name of at most 64 bytes, where there is one, and the end of the head, or the
-- comma before a longer name
abbrev pub named : (name : List ℕ) → (attr : ℕ) → List Written
named name attr =
    if length name == 0 then head_end attr
    else if nat_le (length name) 64 then after_comma (a_text name ∷ head_end attr)
    else a_sign signs.Comma ∷ []

-- the lines of a name that is too long for it
abbrev pub names_behind : (name : List ℕ) → (attr : ℕ) → List (List Written)
names_behind name attr = if nat_le (length name) 64 then [] else name_lines name attr

abbrev pub end_if : Bool → (attr : ℕ) → List Written
end_if true attr = head_end attr
end_if false attr = []

-- Lists of items.

-- what is left of a list: fields with their values, and after them rows of other fields
abbrev pub left : (hidden : List ℕ → Bool) → OpenList → Prints
left hidden list = row_prints hidden (plain_body list.fields.now) list.values.now (rows_prints (row_prints hidden (plain_body list.row.now)) list.rows.now)

-- no items
pub record IsWithout (list : OpenList) : Type 0 where
  pub fields : list.fields.now ≡ []
  pub row : list.row.now ≡ []
  pub rows : list.rows.now ≡ []

-- the first field has the next item, or there is none
abbrev pub is_settled : PlainBody → List (List Tree) → Bool
is_settled no_fields [] = true
is_settled no_fields (row ∷ rows) = false
is_settled (field_and field others) rows = takes_value field

-- widths and names of fields are such as may be, and the cases of each switch have different names
abbrev pub IsSoundField : PlainField → Type 0
IsSoundField field = HasWidth field × HasName field × AreNamesApartIn field

abbrev pub IsSound : PlainBody → Type 0
IsSound body = HasWidths body × HasNames body × AreNamesApart body

pub record IsOpen (list : OpenList) : Type 0 where
  pub fields : IsSound (plain_body list.fields.now)
  pub row : IsSound (plain_body list.row.now)
  pub settled : is_settled (plain_body list.fields.now) list.rows.now ≡ true

-- the first item of a list, and what is left then
pub record IsFirst (list : OpenList) (item : Item) : Type 0 where
  pub shows : (hidden : List ℕ → Bool) → left hidden list ≡ print (field_print hidden (plain_field item.field.now) (option_map (λ v. v.now) item.value)) (left hidden item.others)
  pub field : IsSoundField (plain_field item.field.now)
  pub others : IsOpen item.others

-- what an item is made of
abbrev pub block_print : (name : Option (List ℕ)) → Prints → Print
block_print None items = block items
block_print (Some name) items = named_block name items

abbrev pub entry_print : (hidden : List ℕ → Bool) → Entry → Print
entry_print hidden (entries.Single one) = single (single_of one)
entry_print hidden (entries.Text text) = text_print text.hex text.bytes.now
entry_print hidden (entries.Block name list) = block_print (option_map (λ n. n.now) name) (left hidden list)

abbrev pub IsEntry : Entry → Type 0
IsEntry (entries.Single one) = Unit {0}
IsEntry (entries.Text text) = Unit {0}
IsEntry (entries.Block name list) = IsOpen list

-- one more list may stand in so many
abbrev pub HasRoom : (outer : ℕ) → Entry → Type 0
HasRoom outer (entries.Single one) = Unit {0}
HasRoom outer (entries.Text text) = Unit {0}
HasRoom outer (entries.Block name list) = outer < 61

-- Items with the lists that they stand in.

-- the depth of a list with so many lists outside of it, as far as it shows
abbrev pub level : ℕ → ℕ
level outside = min (outside + 1) 8

-- the ends of lists and what is left of the lists outside of them, the innermost first
abbrev pub closing : (hidden : List ℕ → Bool) → List OpenList → List (List Written)
closing hidden [] = []
closing hidden (next ∷ more) =
    (margin (level (length more)) ++ a_sign signs.CloseBrace ∷ comma (left hidden next)) ∷ (list_lines (level (length more)) (left hidden next) ++ closing hidden more)

-- the lines after an item of a list, which stands in these
abbrev pub behind_lines : (hidden : List ℕ → Bool) → OpenList → List OpenList → List (List Written)
behind_lines hidden list outer = list_lines (level (length outer)) (left hidden list) ++ closing hidden outer

-- the same, where the item is a text of which a part is left
abbrev pub open_lines : (hidden : List ℕ → Bool) → Option Text → OpenList → List OpenList → List (List Written)
open_lines hidden text list outer = pending_lines (level (length outer)) (comma (left hidden list)) text ++ behind_lines hidden list outer

-- the lists outside of the innermost, from the inside out
abbrev pub outside : Items → List OpenList
outside items = reverse items.outer.items

abbrev pub items_left : (hidden : List ℕ → Bool) → Items → List (List Written)
items_left hidden items = open_lines hidden items.text items.list (outside items)

-- so many lists stand in each other at most
abbrev pub AreReady : (hidden : List ℕ → Bool) → List OpenList → Type 0
AreReady hidden [] = Unit {0}
AreReady hidden (list ∷ outer) = IsOpen list × (length outer + heights (left hidden list) ≤ 61) × AreReady hidden outer

abbrev pub AreItemsReady : (hidden : List ℕ → Bool) → Items → Type 0
AreItemsReady hidden items = AreReady hidden (items.list ∷ outside items)

-- Statements.

abbrev pub hidden_in : Rest → List ℕ → Bool
hidden_in rest = hides_in (option_map (λ h. h.now) rest.hidden)

abbrev pub end_left : Rest → List (List Written)
end_left rest = items_left (hidden_in rest) rest.items ++ close_lines

abbrev pub part_left : Rest → Part → List (List Written)
part_left rest parts.Head = head_lines rest.word.now rest.facts.now.kind.code rest.facts.now.id rest.facts.now.name rest.facts.now.attr ++ end_left rest
part_left rest (parts.Name text) = text_lines 1 (head_end rest.facts.now.attr) text.hex text.bytes.now ++ end_left rest
part_left rest parts.Items = end_left rest
part_left rest parts.Blank = [] ∷ []
part_left rest parts.Done = []

-- the lines that are still to come
abbrev pub lines_left : Rest → List (List Written)
lines_left rest = part_left rest rest.part

-- what stands after a piece of a name
abbrev pub part_behind : Option Text → Part
part_behind None = parts.Items
part_behind (Some text) = parts.Name text

-- a name that is too long for the first line of a head stands after it
abbrev pub IsBehindHead : (name : List ℕ) → Part → Type 0
IsBehindHead name parts.Items = nat_le (length name) 64 ≡ true
IsBehindHead name (parts.Name text) = (nat_le (length name) 64 ≡ false) × (text.bytes.now ≡ name) × (text.hex ≡ false)
IsBehindHead name part = ⊥

pub record IsReady (rest : Rest) : Type 0 where
  pub items : AreItemsReady (hidden_in rest) rest.items
  pub short : AllByRecursion IsShort (lines_left rest)
