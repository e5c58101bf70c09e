-- The row of items, computed from left to right up to the first fault. (MPW Rez.)
use Rattle.std.specs.Prelude.{ℕ, zero, suc, ◌+◌, ℤ, pos, nat_abs, Bool, true, false, if◌then◌else◌, List, [], ◌∷◌, length, replicate, Option, Some, None, Ok, Err}
use Rattle.std.specs.Ordering.{int_eq}
use Rattle.std.specs.Str.{str_eq_ignore_ascii_case}
use Rattle.std.specs.declared.result.Result.{Result}
use Rattle.rz_core.specs.Stop.{◌>>=◌}
use Rattle.rz_core.specs.declared.facts.Facts.{Facts}
use Rattle.rz_core.specs.declared.fault.Fault.{Fault}
use Rattle.rz_core.specs.declared.fault.Mark.{Mark}
use Rattle.rz_core.specs.declared.resource.Word.{Word}
use Rattle.rz_expr.specs.Term.{Term}
use Rattle.rz_stmt_items.specs.Item.{Braced, Named, Number, PlainItem, Text}
use Rattle.rz_stmt_items.specs.Fits.{exceeds, is_char, list_of}
use Rattle.rz_stmt_items.specs.Unfit.{mark_of, no_case, other_count, out_of_range, too_few, too_long, too_many, wrong_kind}
use Rattle.rz_types_fields.specs.declared.tree.Tree.{Tree}
use Rattle.rz_types_fields.specs.declared.tree.Tree.TheVariants as trees
use Rattle.rz_types.specs.Field.{takes_value, PlainBody, PlainCase, PlainCases, PlainField, PlainNumber, PlainText}
use Rattle.rz_types.specs.Field as fields
use Rattle.rz_types.specs.Range.{fits_number}
use Rattle.rz_types.specs.Shape.{numbers_of}
use Rattle.rz_types.specs.Piece.{integer}
use Rattle.rz_types.specs.Stored.{stored_number}
use Rattle.rz_types.specs.Text.{bytes_of, PlainPart}
use Rattle.rz_types.specs.Value.{symbol_number_of}

-- the values of the rest of a list's items, of which so many are before it
module _ {F V : Type 0} (one : ℕ → F → PlainItem → Result V Fault) (place : Mark) (all : List PlainItem) where
  abbrev pub matched_all : ℕ → List F → List PlainItem → Result (List V) Fault
  matched_all before [] [] = Ok []
  matched_all before [] (item ∷ items) = Err (too_many item all)
  matched_all before (field ∷ fields) [] = Err (too_few place all)
  matched_all before (field ∷ fields) (item ∷ items) =
      one (before + 1) field item >>= λ value. matched_all (before + 1) fields items >>= λ values. Ok (value ∷ values)

abbrev pub in_range : PlainNumber → Mark → ℤ → Result ℤ Fault
in_range number mark value = if fits_number number.form number.width value then Ok value else Err (out_of_range mark value)

abbrev pub expression_value : Facts → PlainNumber → Term → Mark → Result ℤ Fault
expression_value known number term mark = symbol_number_of mark known number.symbols term >>= in_range number mark

abbrev pub letter_value : Mark → List ℕ → Result ℤ Fault
letter_value mark [] = Ok (pos 0)
letter_value mark (byte ∷ []) = Ok (pos byte)
letter_value mark (byte ∷ next ∷ bytes) = Err (too_long mark (byte ∷ next ∷ bytes))

abbrev pub char_value : Bool → Facts → (position : ℕ) → List PlainPart → Mark → Result ℤ Fault
char_value true known position parts mark = bytes_of mark known parts >>= letter_value mark
char_value false known position parts mark = Err (wrong_kind position mark)

abbrev pub value_for : Facts → (position : ℕ) → PlainNumber → PlainItem → Result ℤ Fault
value_for known position number (Number term mark) = expression_value known number term mark
value_for known position number (Text parts mark) = char_value (is_char number.form) known position parts mark
value_for known position number (Braced items mark) = Err (wrong_kind position mark)
value_for known position number (Named name items mark) = Err (wrong_kind position mark)

abbrev pub number_for : Facts → (position : ℕ) → PlainNumber → PlainItem → Result ℕ Fault
number_for known position number item = value_for known position number item >>= λ value. Ok (stored_number (nat_abs number.width) value)

abbrev pub short_text : PlainText → Mark → List ℕ → Result (List ℕ) Fault
short_text text mark bytes = if exceeds text bytes then Err (too_long mark bytes) else Ok bytes

abbrev pub text_for : Facts → (position : ℕ) → PlainText → PlainItem → Result (List ℕ) Fault
text_for known position text (Text parts mark) = bytes_of mark known parts >>= short_text text mark
text_for known position text item = Err (wrong_kind position (mark_of item))

-- the numbers of a point or a rectangle, of the items in its braces
abbrev pub numbers_for : Facts → Bool → Mark → List PlainItem → Result (List ℕ) Fault
numbers_for known rect place items = matched_all (number_for known) place items 0 (replicate (numbers_of rect) (integer None)) items

abbrev pub group_for : Facts → (position : ℕ) → Bool → PlainItem → Result (List ℕ) Fault
group_for known position rect (Braced items mark) = numbers_for known rect mark (list_of items)
group_for known position rect item = Err (wrong_kind position (mark_of item))

-- Rows.

-- a row, how many items of the list are after it then, and the items that are left
pub record Line : Type 0 where
  pub row : List Tree
  pub before : ℕ
  pub rest : List PlainItem

abbrev pub with_value : Tree → Line → Line
with_value value line = record { row = value ∷ line.row; before = line.before; rest = line.rest }

abbrev pub next_matched : Bool → (ℕ → PlainItem → Result Tree Fault) → (ℕ → List PlainItem → Result Line Fault) → Mark → List PlainItem → ℕ → List PlainItem → Result Line Fault
next_matched true one others place all before [] = Err (too_few place all)
next_matched true one others place all before (item ∷ rest) = one (before + 1) item >>= λ value. others (before + 1) rest >>= λ line. Ok (with_value value line)
next_matched false one others place all before items = others before items

-- rows until no item is left, at most so many
abbrev pub rows_matched : (ℕ → List PlainItem → Result Line Fault) → ℕ → ℕ → List PlainItem → Result (List (List Tree)) Fault
rows_matched row count before [] = Ok []
rows_matched row zero before (item ∷ items) = Ok []
rows_matched row (suc count) before (item ∷ items) =
    row before (item ∷ items) >>= λ line. rows_matched row count line.before line.rest >>= λ rows. Ok (line.row ∷ rows)

-- so many rows, where as many are stated
abbrev pub is_stated : Option ℤ → ℕ → Bool
is_stated None given = true
is_stated (Some stated) given = int_eq stated (pos given)

abbrev pub stated_of : Option ℤ → ℤ
stated_of None = pos 0
stated_of (Some stated) = stated

abbrev pub counted : Mark → Option ℤ → List (List Tree) → Result Tree Fault
counted place count rows = if is_stated count (length rows) then Ok (trees.Rows rows) else Err (other_count place (stated_of count) (length rows))

-- no item is left
abbrev pub nothing_left : List PlainItem → List Tree → List PlainItem → Result (List Tree) Fault
nothing_left all row [] = Ok row
nothing_left all row (item ∷ rest) = Err (too_many item all)

abbrev pub whole_matched : (ℕ → List PlainItem → Result Line Fault) → List PlainItem → Result (List Tree) Fault
whole_matched row items = row 0 items >>= λ line. nothing_left items line.row line.rest

abbrev pub list_matched : (position : ℕ) → PlainItem → (Mark → List PlainItem → Result Tree Fault) → Result Tree Fault
list_matched position (Braced items mark) given = given mark (list_of items)
list_matched position (Number term mark) given = Err (wrong_kind position mark)
list_matched position (Text parts mark) given = Err (wrong_kind position mark)
list_matched position (Named name items mark) given = Err (wrong_kind position mark)

abbrev pub named_matched : (position : ℕ) → PlainItem → (Mark → List ℕ → List PlainItem → Result Tree Fault) → Result Tree Fault
named_matched position (Named name items mark) given = given mark name (list_of items)
named_matched position (Number term mark) given = Err (wrong_kind position mark)
named_matched position (Text parts mark) given = Err (wrong_kind position mark)
named_matched position (Braced items mark) given = Err (wrong_kind position mark)

abbrev pub choice : Word → List Tree → Result Tree Fault
choice name line = Ok (trees.Choice name line)

abbrev mutual
  pub item_for : Facts → PlainField → (position : ℕ) → PlainItem → Result Tree Fault
  item_for known (fields.Number number) position item = number_for known position number item >>= λ n. Ok (trees.Number n)
  item_for known (fields.Text text) position item = text_for known position text item >>= λ bytes. Ok (trees.Text bytes)
  item_for known (fields.Points points) position item = group_for known position points.rect item >>= λ numbers. Ok (trees.Group numbers)
  item_for known (fields.Fill unit count) position item = Err (wrong_kind position (mark_of item))
  item_for known (fields.Align unit) position item = Err (wrong_kind position (mark_of item))
  item_for known (fields.Label name) position item = Err (wrong_kind position (mark_of item))
  item_for known (fields.Array name count row) position item =
      list_matched position item (λ place items. rows_matched (row_matched known row place items) (length items) 0 items >>= counted place count)
  item_for known (fields.Switch cases) position item = named_matched position item (case_matched known cases)

  pub case_matched : Facts → PlainCases → Mark → List ℕ → List PlainItem → Result Tree Fault
  case_matched known fields.no_cases mark name items = Err (no_case mark name)
  case_matched known (fields.case_and own row others) mark name items =
      if str_eq_ignore_ascii_case own.bytes name then whole_matched (row_matched known row mark items) items >>= choice own
      else case_matched known others mark name items

  -- a row of the items of a list at this place, so many of which are before it
  pub row_matched : Facts → PlainBody → Mark → List PlainItem → ℕ → List PlainItem → Result Line Fault
  row_matched known fields.no_fields place all before items = Ok (record { row = []; before = before; rest = items })
  row_matched known (fields.field_and field others) place all before items =
      next_matched (takes_value field) (item_for known field) (row_matched known others place all) place all before items

-- the row of the items of a statement at this place
abbrev pub matched : Facts → Mark → PlainBody → List PlainItem → Result (List Tree) Fault
matched known place body items = whole_matched (row_matched known body place items) items

-- the choice of a case, and the row of its items at this place
abbrev pub choice_matched : Facts → Mark → PlainCase → List PlainItem → Result Tree Fault
choice_matched known place one items = matched known place one.row items >>= choice one.name
