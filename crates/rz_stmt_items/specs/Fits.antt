-- Which values the items of a `resource` statement give to the fields of its type. (MPW Rez.)
use Rattle.std.specs.Prelude.{◌≡◌, ℕ, ℤ, pos, nat_abs, Bool, true, false, ◌&&◌, List, [], ◌∷◌, ◌++◌, length, replicate, None, Ok}
use Rattle.std.specs.Option.{is_none}
use Rattle.std.specs.Str.{str_eq_ignore_ascii_case}
use Rattle.rz_core.specs.declared.facts.Facts.{Facts}
use Rattle.rz_stmt_items.specs.Item.{Braced, more, Named, none, Number, PlainItem, PlainItems, Text}
use Rattle.rz_types_fields.specs.declared.field.NumForm.{NumForm}
use Rattle.rz_types_fields.specs.declared.field.NumForm.TheVariants.{Char}
use Rattle.rz_types_fields.specs.Field.{takes_value, PlainBody, PlainCases, PlainField, PlainNumber, PlainText}
use Rattle.rz_types_fields.specs.Field as fields
use Rattle.rz_types_fields.specs.Range.{fits_number}
use Rattle.rz_types_fields.specs.Shape.{numbers_of}
use Rattle.rz_types_fields.specs.Piece.{integer}
use Rattle.rz_types_fields.specs.Stored.{is_too_long, stored_number}
use Rattle.rz_types_fields.specs.Text.{bytes_of}
use Rattle.rz_types_fields.specs.Value.{symbol_number_of}
use Rattle.rz_types_fields.specs.declared.tree.Tree.{Tree}
use Rattle.rz_types_fields.specs.declared.tree.Tree.TheVariants as trees
use Rattle.rz_types_fields.specs.Row.{By, IsStated}

-- items in braces, as a list
abbrev pub list_of : PlainItems → List PlainItem
list_of none = []
list_of (more item items) = item ∷ list_of items

-- fields of one kind, items and values correspond one to one, in order
abbrev pub FitAll : {F V : Type 0} → (F → PlainItem → V → Type 0) → List F → List PlainItem → List V → Type 0
FitAll IsOf [] [] [] = Unit {0}
FitAll IsOf (field ∷ fields) (item ∷ items) (value ∷ values) = IsOf field item value × FitAll IsOf fields items values
FitAll IsOf fields items values = ⊥

-- Numbers.

abbrev pub is_char : NumForm → Bool
is_char Char = true
is_char form = false

-- the value of a text of one byte at most: that byte, and 0 where there is none
abbrev pub IsLetter : List ℕ → ℤ → Type 0
IsLetter [] value = value ≡ pos 0
IsLetter (byte ∷ []) value = value ≡ pos byte
IsLetter (byte ∷ next ∷ bytes) value = ⊥

-- the value of an item for a number: that of an expression, in the number's range; of a `char` also that of a text
abbrev pub IsNumberValue : Facts → PlainNumber → PlainItem → ℤ → Type 0
IsNumberValue known number (Number term mark) value =
    (symbol_number_of mark known number.symbols term ≡ Ok value) × (fits_number number.form number.width value ≡ true)
IsNumberValue known number (Text parts mark) value = (bytes : List ℕ) × (is_char number.form ≡ true) × (bytes_of mark known parts ≡ Ok bytes) × IsLetter bytes value
IsNumberValue known number (Braced items mark) value = ⊥
IsNumberValue known number (Named name items mark) value = ⊥

-- the row has the number that stands for that value
abbrev pub IsNumberOf : Facts → PlainNumber → PlainItem → ℕ → Type 0
IsNumberOf known number item n = (value : ℤ) × IsNumberValue known number item value × (n ≡ stored_number (nat_abs number.width) value)

-- Texts.

-- a text with a size is cut or filled to it, so it is never too long
abbrev pub exceeds : PlainText → List ℕ → Bool
exceeds text bytes = is_none text.size && is_too_long text.form None (length bytes)

abbrev pub IsTextOf : Facts → PlainText → PlainItem → List ℕ → Type 0
IsTextOf known text (Text parts mark) bytes = (bytes_of mark known parts ≡ Ok bytes) × (exceeds text bytes ≡ false)
IsTextOf known text item bytes = ⊥

-- Points and rectangles.

-- the numbers of a point or a rectangle: two or four items in braces
abbrev pub AreNumbersOf : Facts → Bool → PlainItem → List ℕ → Type 0
AreNumbersOf known rect (Braced items mark) numbers = FitAll (IsNumberOf known) (replicate (numbers_of rect) (integer None)) (list_of items) numbers
AreNumbersOf known rect item numbers = ⊥

-- Rows.

-- the items in braces, where it is a list
abbrev pub WithList : PlainItem → (List PlainItem → Type 0) → Type 0
WithList (Braced items mark) IsSo = IsSo (list_of items)
WithList (Number term mark) IsSo = ⊥
WithList (Text parts mark) IsSo = ⊥
WithList (Named name items mark) IsSo = ⊥

-- the name and the items in braces after it
abbrev pub WithNamed : PlainItem → (List ℕ → List PlainItem → Type 0) → Type 0
WithNamed (Named name items mark) IsSo = IsSo name (list_of items)
WithNamed (Number term mark) IsSo = ⊥
WithNamed (Text parts mark) IsSo = ⊥
WithNamed (Braced items mark) IsSo = ⊥

-- the first item gives the first value, where the field takes one, and the others give the others
abbrev pub NextFits : Bool → (PlainItem → Tree → Type 0) → (List PlainItem → List Tree → Type 0) → List PlainItem → List Tree → Type 0
NextFits true IsOne Others items row =
    (item : PlainItem) × (rest : List PlainItem) × (value : Tree) × (values : List Tree) × (items ≡ item ∷ rest) × (row ≡ value ∷ values) × IsOne item value × Others rest values
NextFits false IsOne Others items row = Others items row

-- the items are those of rows, one row after the other, each of one item at least
abbrev pub RowsFit : (List PlainItem → List Tree → Type 0) → List PlainItem → List (List Tree) → Type 0
RowsFit IsRow items [] = items ≡ []
RowsFit IsRow items (row ∷ rows) =
    (first : PlainItem) × (others rest : List PlainItem) × (items ≡ (first ∷ others) ++ rest) × IsRow (first ∷ others) row × RowsFit IsRow rest rows

-- Fields.

abbrev mutual
  -- the value that an item gives to a field
  pub IsItemOf : Facts → PlainField → PlainItem → Tree → Type 0
  IsItemOf known (fields.Number number) item value = (n : ℕ) × IsNumberOf known number item n × (value ≡ trees.Number n)
  IsItemOf known (fields.Text text) item value = (bytes : List ℕ) × IsTextOf known text item bytes × (value ≡ trees.Text bytes)
  IsItemOf known (fields.Points points) item value = (numbers : List ℕ) × AreNumbersOf known points.rect item numbers × (value ≡ trees.Group numbers)
  IsItemOf known (fields.Fill unit count) item value = ⊥
  IsItemOf known (fields.Align unit) item value = ⊥
  IsItemOf known (fields.Label name) item value = ⊥
  IsItemOf known (fields.Array name count row) item value =
      WithList item (λ items. (rows : List (List Tree)) × RowsFit (Fits known row) items rows × IsStated count (length rows) × (value ≡ trees.Rows rows))
  IsItemOf known (fields.Switch cases) item value = WithNamed item (λ name items. IsCaseOf known cases name items value)

  -- the case of this name, in whatever case its letters are, and the row that the items are
  pub IsCaseOf : Facts → PlainCases → List ℕ → List PlainItem → Tree → Type 0
  IsCaseOf known fields.no_cases name items value = ⊥
  IsCaseOf known (fields.case_and own row others) name items value =
      By (str_eq_ignore_ascii_case own.bytes name) ((line : List Tree) × Fits known row items line × (value ≡ trees.Choice own line)) (IsCaseOf known others name items value)

  -- the items give this row: one item and one value for each field that takes one
  pub Fits : Facts → PlainBody → List PlainItem → List Tree → Type 0
  Fits known fields.no_fields items row = (items ≡ []) × (row ≡ [])
  Fits known (fields.field_and field others) items row = NextFits (takes_value field) (IsItemOf known field) (Fits known others) items row
