-- Why items don't fit the fields of a type: the first fault from left to right. (MPW Rez.)
use Rattle.std.specs.Prelude.{◌≡◌, ◌≢◌, ◌⊎◌, ℕ, ◌+◌, ℤ, pos, Bool, true, false, List, [], ◌∷◌, ◌++◌, length, replicate, Option, Some, None, Ok, Err}
use Rattle.std.specs.Str.{str_eq_ignore_ascii_case}
use Rattle.rz_core.specs.declared.facts.Facts.{Facts}
use Rattle.rz_core.specs.declared.fault.Fault.{Fault}
use Rattle.rz_core.specs.declared.fault.Kept.TheVariants as kept
use Rattle.rz_core.specs.declared.fault.Mark.{Mark}
use Rattle.rz_expr.specs.Term.{Term}
use Rattle.rz_stmt_items.specs.Item.{Braced, Named, Number, PlainItem, Text}
use Rattle.rz_stmt_items.specs.Fits.{exceeds, is_char, list_of, FitAll, Fits, IsItemOf, IsNumberOf, RowsFit}
use Rattle.rz_types_fields.specs.declared.tree.Tree.{Tree}
use Rattle.rz_types_fields.specs.Row.{By}
use Rattle.rz_types.specs.Field.{takes_value, PlainBody, PlainCases, PlainField, PlainNumber, PlainText}
use Rattle.rz_types.specs.Field as fields
use Rattle.rz_types.specs.Range.{fits_number}
use Rattle.rz_types.specs.Shape.{numbers_of}
use Rattle.rz_types.specs.Piece.{integer}
use Rattle.rz_types.specs.Text.{bytes_of, PlainPart}
use Rattle.rz_types.specs.Value.{symbol_number_of}

-- Faults.

-- the place of an item's first token
abbrev pub mark_of : PlainItem → Mark
mark_of (Number term mark) = mark
mark_of (Text parts mark) = mark
mark_of (Braced items mark) = mark
mark_of (Named name items mark) = mark

abbrev pub keeps : ℕ → Mark → ℤ → Fault
keeps number mark value = record { number = number; mark = Some mark; kept = kept.Number value }

-- an item of another kind: 206, which keeps the item's position in its list, from 1
abbrev pub wrong_kind : ℕ → Mark → Fault
wrong_kind position mark = keeps 206 mark (pos position)

-- a value that isn't in the range of its field: 207
abbrev pub out_of_range : Mark → ℤ → Fault
out_of_range mark value = keeps 207 mark value

-- no item for a field: 208 at the mark of the list, which keeps how many items it has
abbrev pub too_few : Mark → List PlainItem → Fault
too_few place items = keeps 208 place (pos (length items))

-- no field for an item: 209 at that item, which keeps how many items the list has
abbrev pub too_many : PlainItem → List PlainItem → Fault
too_many item items = keeps 209 (mark_of item) (pos (length items))

-- a text that is too long: 216, which keeps how many bytes it has
abbrev pub too_long : Mark → List ℕ → Fault
too_long mark bytes = keeps 216 mark (pos (length bytes))

-- no case of this name: 210 keeps it
abbrev pub no_case : Mark → List ℕ → Fault
no_case mark name = record { number = 210; mark = Some mark; kept = kept.Name name }

-- another number of rows than is stated: 217 at the list, which keeps both
abbrev pub other_count : Mark → ℤ → ℕ → Fault
other_count place stated given = record { number = 217; mark = Some place; kept = kept.Pair stated (pos given) }

-- Lists of one kind.

-- what is wrong after the fields and items that fit: the next item has this fault, or there is none for the next field, or
-- there is no field for it
abbrev pub BreaksAt : {F : Type 0} → (ℕ → F → PlainItem → Fault → Type 0) → Mark → List PlainItem → ℕ → List F → List PlainItem → Fault → Type 0
BreaksAt IsFaultOf place items position [] [] fault = ⊥
BreaksAt IsFaultOf place items position [] (item ∷ rest) fault = fault ≡ too_many item items
BreaksAt IsFaultOf place items position (field ∷ others) [] fault = fault ≡ too_few place items
BreaksAt IsFaultOf place items position (field ∷ others) (item ∷ rest) fault = IsFaultOf position field item fault

-- a front of the fields fits a front of the items of a list at this place, and what is next doesn't
pub record UnfitAll {F V : Type 0} (IsOf : F → PlainItem → V → Type 0) (IsFaultOf : ℕ → F → PlainItem → Fault → Type 0) (place : Mark)
    (fields : List F) (items : List PlainItem) (fault : Fault) : Type 0 where
  pub served : List F
  pub others : List F
  pub used : List PlainItem
  pub rest : List PlainItem
  pub values : List V
  pub are_fields : fields ≡ served ++ others
  pub are_items : items ≡ used ++ rest
  pub fit : FitAll IsOf served used values
  pub breaks : BreaksAt IsFaultOf place items (length used + 1) others rest fault

-- Items.

-- the fault of an expression for a number: that of its value, or its value isn't in the range
abbrev pub IsExpressionFault : Facts → PlainNumber → Term → Mark → Fault → Type 0
IsExpressionFault known number term mark fault =
    (symbol_number_of mark known number.symbols term ≡ Err fault)
    ⊎ ((value : ℤ) × (symbol_number_of mark known number.symbols term ≡ Ok value) × (fits_number number.form number.width value ≡ false) × (fault ≡ out_of_range mark value))

-- the fault of a text for a `char`: that of its bytes, or they are more than one
abbrev pub IsLongLetter : Mark → List ℕ → Fault → Type 0
IsLongLetter mark [] fault = ⊥
IsLongLetter mark (byte ∷ []) fault = ⊥
IsLongLetter mark (byte ∷ next ∷ bytes) fault = fault ≡ too_long mark (byte ∷ next ∷ bytes)

abbrev pub IsLetterFault : Facts → List PlainPart → Mark → Fault → Type 0
IsLetterFault known parts mark fault =
    (bytes_of mark known parts ≡ Err fault) ⊎ ((bytes : List ℕ) × (bytes_of mark known parts ≡ Ok bytes) × IsLongLetter mark bytes fault)

-- a `char` takes a text, and no other number does
abbrev pub IsCharFault : Bool → Facts → (position : ℕ) → List PlainPart → Mark → Fault → Type 0
IsCharFault true known position parts mark fault = IsLetterFault known parts mark fault
IsCharFault false known position parts mark fault = fault ≡ wrong_kind position mark

abbrev pub IsNumberFault : Facts → (position : ℕ) → PlainNumber → PlainItem → Fault → Type 0
IsNumberFault known position number (Number term mark) fault = IsExpressionFault known number term mark fault
IsNumberFault known position number (Text parts mark) fault = IsCharFault (is_char number.form) known position parts mark fault
IsNumberFault known position number (Braced items mark) fault = fault ≡ wrong_kind position mark
IsNumberFault known position number (Named name items mark) fault = fault ≡ wrong_kind position mark

-- the fault of a text: that of its bytes, or they are too many
abbrev pub IsTextFault : Facts → (position : ℕ) → PlainText → PlainItem → Fault → Type 0
IsTextFault known position text (Text parts mark) fault =
    (bytes_of mark known parts ≡ Err fault)
    ⊎ ((bytes : List ℕ) × (bytes_of mark known parts ≡ Ok bytes) × (exceeds text bytes ≡ true) × (fault ≡ too_long mark bytes))
IsTextFault known position text item fault = fault ≡ wrong_kind position (mark_of item)

-- the fault of a point or a rectangle: that of the list in its braces
abbrev pub IsGroupFault : Facts → (position : ℕ) → Bool → PlainItem → Fault → Type 0
IsGroupFault known position rect (Braced items mark) fault =
    UnfitAll (IsNumberOf known) (IsNumberFault known) mark (replicate (numbers_of rect) (integer None)) (list_of items) fault
IsGroupFault known position rect item fault = fault ≡ wrong_kind position (mark_of item)

-- Rows.

-- what a field asks for: whether it takes an item, which value an item gives it, and which fault an item has for it
pub record Asked : Type 1 where
  pub takes : Bool
  pub IsOne : PlainItem → Tree → Type 0
  pub IsFaultOf : (position : ℕ) → PlainItem → Fault → Type 0

-- all items of a list, and where it stands
pub record Listed : Type 0 where
  pub place : Mark
  pub all : List PlainItem

-- for a field that takes an item: the next item has a fault, or it fits and the items after it have the fault; or no item is
-- left
abbrev pub TakenUnfit : Asked → (ℕ → List PlainItem → Fault → Type 0) → Listed → (before : ℕ) → List PlainItem → Fault → Type 0
TakenUnfit field Others list before [] fault = fault ≡ too_few list.place list.all
TakenUnfit field Others list before (item ∷ rest) fault =
    field.IsFaultOf (before + 1) item fault ⊎ ((value : Tree) × field.IsOne item value × Others (before + 1) rest fault)

-- the same of any field: where it takes none, the items have the fault for the others
abbrev pub NextUnfit : Asked → (ℕ → List PlainItem → Fault → Type 0) → Listed → (before : ℕ) → List PlainItem → Fault → Type 0
NextUnfit field Others list before items fault = By field.takes (TakenUnfit field Others list before items fault) (Others before items fault)

-- another number of rows than is stated
abbrev pub IsOtherCount : Mark → Option ℤ → ℕ → Fault → Type 0
IsOtherCount place None given fault = ⊥
IsOtherCount place (Some stated) given fault = (stated ≢ pos given) × (fault ≡ other_count place stated given)

-- some rows fit, and the items after them are none; or they all fit, and are others than stated
abbrev pub RowsUnfit : (List PlainItem → List Tree → Type 0) → (ℕ → List PlainItem → Fault → Type 0) → Mark → Option ℤ → List PlainItem → Fault → Type 0
RowsUnfit IsRow RowUnfit place count items fault =
    ((front : List PlainItem) × (item : PlainItem) × (rest : List PlainItem) × (rows : List (List Tree)) × (items ≡ front ++ item ∷ rest) × RowsFit IsRow front rows
    × RowUnfit (length front) (item ∷ rest) fault)
    ⊎ ((rows : List (List Tree)) × RowsFit IsRow items rows × IsOtherCount place count (length rows) fault)

-- the items of a list are no row, or they are one and an item stands after them
abbrev pub WholeUnfit : (List PlainItem → List Tree → Type 0) → (ℕ → List PlainItem → Fault → Type 0) → List PlainItem → Fault → Type 0
WholeUnfit IsRow RowUnfit items fault =
    RowUnfit 0 items fault
    ⊎ ((front : List PlainItem) × (item : PlainItem) × (rest : List PlainItem) × (row : List Tree) × (items ≡ front ++ item ∷ rest) × IsRow front row
    × (fault ≡ too_many item items))

-- an item that is no list, or whose list has the fault
abbrev pub ListFault : (position : ℕ) → PlainItem → (Mark → List PlainItem → Fault → Type 0) → Fault → Type 0
ListFault position (Braced items mark) IsSo fault = IsSo mark (list_of items) fault
ListFault position (Number term mark) IsSo fault = fault ≡ wrong_kind position mark
ListFault position (Text parts mark) IsSo fault = fault ≡ wrong_kind position mark
ListFault position (Named name items mark) IsSo fault = fault ≡ wrong_kind position mark

abbrev pub NamedFault : (position : ℕ) → PlainItem → (Mark → List ℕ → List PlainItem → Fault → Type 0) → Fault → Type 0
NamedFault position (Named name items mark) IsSo fault = IsSo mark name (list_of items) fault
NamedFault position (Number term mark) IsSo fault = fault ≡ wrong_kind position mark
NamedFault position (Text parts mark) IsSo fault = fault ≡ wrong_kind position mark
NamedFault position (Braced items mark) IsSo fault = fault ≡ wrong_kind position mark

-- Fields.

abbrev mutual
  -- the fault of an item for a field; a `fill`, an `align` and a label take no item
  pub IsItemFault : Facts → PlainField → (position : ℕ) → PlainItem → Fault → Type 0
  IsItemFault known (fields.Number number) position item fault = IsNumberFault known position number item fault
  IsItemFault known (fields.Text text) position item fault = IsTextFault known position text item fault
  IsItemFault known (fields.Points points) position item fault = IsGroupFault known position points.rect item fault
  IsItemFault known (fields.Fill unit count) position item fault = fault ≡ wrong_kind position (mark_of item)
  IsItemFault known (fields.Align unit) position item fault = fault ≡ wrong_kind position (mark_of item)
  IsItemFault known (fields.Label name) position item fault = fault ≡ wrong_kind position (mark_of item)
  IsItemFault known (fields.Array name count row) position item fault =
      ListFault position item (λ place items. RowsUnfit (Fits known row) (RowUnfit known row place items) place count items) fault
  IsItemFault known (fields.Switch cases) position item fault = NamedFault position item (λ mark name items. IsCaseFault known cases mark name items) fault

  -- no case of this name, or its items are no row of it
  pub IsCaseFault : Facts → PlainCases → Mark → List ℕ → List PlainItem → Fault → Type 0
  IsCaseFault known fields.no_cases mark name items fault = fault ≡ no_case mark name
  IsCaseFault known (fields.case_and own row others) mark name items fault =
      By (str_eq_ignore_ascii_case own.bytes name) (WholeUnfit (Fits known row) (RowUnfit known row mark items) items fault) (IsCaseFault known others mark name items fault)

  -- the first fault of the items for the fields of a row: they stand in a list of all these items at this place, so many of
  -- which are before them
  pub RowUnfit : Facts → PlainBody → Mark → List PlainItem → (before : ℕ) → List PlainItem → Fault → Type 0
  RowUnfit known fields.no_fields place all before items fault = ⊥
  RowUnfit known (fields.field_and field others) place all before items fault =
      NextUnfit (record { takes = takes_value field; IsOne = IsItemOf known field; IsFaultOf = IsItemFault known field }) (RowUnfit known others place all)
      (record { place = place; all = all }) before items fault

-- the first fault of the items of a statement at this place
abbrev pub Unfit : Facts → Mark → PlainBody → List PlainItem → Fault → Type 0
Unfit known place body items fault = WholeUnfit (Fits known body) (RowUnfit known body place items) items fault
