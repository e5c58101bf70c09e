-- Which bytes the values of a row spell under the fields of a type. (Inside Macintosh: More Macintosh Toolbox, Resource
-- Manager; MPW Rez.)
use Rattle.std.specs.Prelude.{◌≡◌, ◌≢◌, ℕ, ◌+◌, ◌<◌, ◌≤◌, ◌^◌, ℤ, pos, nat_abs, Bool, true, false, ◌||◌, List, [], ◌∷◌, ◌++◌, length, map, take, drop, replicate, slice_index, Option, Some, None, Ok}
use Rattle.std.specs.Option.{option_to_list}
use Rattle.std.specs.List.{AllByRecursion, sum_by}
use Rattle.std.specs.Str.{str_eq_ignore_ascii_case}
use Rattle.rz_core.specs.declared.resource.Word.{Word}
use Rattle.rz_core.specs.declared.facts.Facts.{Facts}
use Rattle.rz_core.specs.declared.fault.Mark.{Mark}
use Rattle.rz_expr.specs.Environment.{count_key, place_in, place_key, place_of, rows_of, Environment, Key, Sight}
use Rattle.rz_expr.specs.Term.{Term}
use Rattle.rz_expr.specs.Value.{value_of}
use Rattle.rz_bits.specs.Bits.{bits_of, number_bits}
use Rattle.rz_bits.specs.BitBuf.{filled, missing, zeros}
use Rattle.rz_types_fields.specs.Field.{case_and, field_and, no_cases, no_fields, Align, Array, Fill, Label, Number, PlainBody, PlainCases, PlainField, PlainText, Points, Switch, Text}
use Rattle.rz_types_fields.specs.Passed.{at_field, at_front, behind, behind_piece, declares, has_label, is_known, nothing_passed, outside, Names, Passed}
use Rattle.rz_types_fields.specs.RowLabels.{is_row, row_number, row_of, RowOf}
use Rattle.rz_types_fields.specs.Piece.{pieces_of, terms_of_text, Filler, OneNumber, OneText, Piece, Place, Zeros}
use Rattle.rz_types_fields.specs.Range.{fits_number, may_be_size}
use Rattle.rz_types_fields.specs.Sees.{is_late, sees, Late}
use Rattle.rz_types_fields.specs.Solve.{SolvesBack}
use Rattle.rz_types_fields.specs.Stored.{before_zero, is_too_long, stored_number, stored_text}
use Rattle.rz_types_fields.specs.Text.{bytes_seen, PlainPart}
use Rattle.rz_types_fields.specs.declared.field.NumForm.{NumForm}
use Rattle.rz_types_fields.specs.declared.field.TextForm.{TextForm}
use Rattle.rz_types_fields.specs.declared.field.TextForm.TheVariants as texts
use Rattle.rz_types_fields.specs.Row.{By, IsStated}
use Rattle.rz_types_fields.specs.declared.tree.Tree.{fold-Tree, out-Tree, Tree}
use Rattle.rz_types_fields.specs.declared.tree.Tree.TheOpen.{Tree-F}
use Rattle.rz_types_fields.specs.declared.tree.Tree.TheVariants as trees

-- Values of pieces.

-- the numbers of a value
abbrev pub numbers_of_group : Tree-F Tree → List ℕ
numbers_of_group (Tree-F.Group numbers) = numbers
numbers_of_group value = []

abbrev pub group_in : Option Tree → List ℕ
group_in None = []
group_in (Some value) = numbers_of_group (out-Tree value)

-- the values of these pieces, where the field has this value or none
abbrev pub values_for : PlainField → Option Tree → List Tree
values_for (Points points) value = map trees.Number (group_in value)
values_for field value = option_to_list value

-- the value of a point or a rectangle is a group, or it has none; of the other fields their pieces say it
abbrev pub IsGrouped : Option (List Term) → Option Tree → Type 0
IsGrouped None value = (numbers : List ℕ) × (value ≡ Some (trees.Group numbers))
IsGrouped (Some terms) value = value ≡ None

abbrev pub IsGroupedFor : PlainField → Option Tree → Type 0
IsGroupedFor (Points points) value = IsGrouped points.fixed value
IsGroupedFor field value = Unit {0}

-- Bodies.

-- outside of a row a label that stands directly in it has the place, by the number of the row, that it has in it
abbrev pub HasPlace : Option RowOf → List ℕ → (outer own : Environment) → Type 0
HasPlace None label outer own = Unit {0}
HasPlace (Some row) label outer own = outer.give (place_in label (pos row.number)) ≡ own.give (place_of label)

-- In a body names have other values than outside only where its fields give them, and where it is the row of an array, whose
-- name has the number of the row.
pub record Within (body : PlainBody) (which : Option RowOf) (outer own : Environment) : Type 0 where
  pub give : (key : Key) → declares body key ≡ false → is_row which key ≡ false → own.give key ≡ outer.give key
  pub number : (key : Key) → is_row which key ≡ true → own.give key ≡ row_number which
  pub places : (label : List ℕ) → has_label body label ≡ true → HasPlace which label outer own

-- so many rows are counted by the name of their array
abbrev pub IsCounted : Option Word → ℕ → Environment → Type 0
IsCounted None rows names = Unit {0}
IsCounted (Some name) rows names = names.give (count_key name.bytes) ≡ Some (pos rows)

-- so many rows are counted by each label that stands directly in them
pub record AreRows (row : PlainBody) (rows : ℕ) (names : Environment) : Type 0 where
  pub give : (label : List ℕ) → has_label row label ≡ true → names.give (rows_of label) ≡ Some (pos rows)

-- Values.

-- where texts stand that have no line of their own
abbrev pub nowhere : Mark
nowhere = record { file = 0; line = 0 }

-- the bits of a number: of the row's value, or of the value of its expression, which is in the range of its field
abbrev pub IsNumber : NumForm → ℤ → Option Term → Sight → Option Tree → List Bool → Type 0
IsNumber form width None sight value bits =
    (n : ℕ) × (value ≡ Some (trees.Number n)) × (n < 2 ^ nat_abs width) × (bits ≡ number_bits (nat_abs width) n)
IsNumber form width (Some term) sight value bits =
    (v : ℤ) × (value ≡ None) × (value_of term sight ≡ Ok v) × (fits_number form width v ≡ true)
    × (bits ≡ number_bits (nat_abs width) (stored_number (nat_abs width) v))

-- the size of a text: none, or the value of its expression, where a text of this type may have it
abbrev pub IsSize : TextForm → Sight → Option Term → Option ℕ → Type 0
IsSize form sight None size = size ≡ None
IsSize form sight (Some term) size = (n : ℕ) × (value_of term sight ≡ Ok (pos n)) × (may_be_size form (pos n) ≡ true) × (size ≡ Some n)

-- the bytes of a text: those of the row's value, or those of its fixed parts
abbrev pub AreBytes : Facts → Sight → Option (List PlainPart) → Option Tree → List ℕ → Type 0
AreBytes known sight None value bytes = value ≡ Some (trees.Text bytes)
AreBytes known sight (Some parts) value bytes = (value ≡ None) × (bytes_seen nowhere known sight parts ≡ Ok bytes)

-- the bits of a text: it has a size that it may have, or isn't too long without one
pub record IsText (text : PlainText) (known : Facts) (sight : Sight) (value : Option Tree) (bits : List Bool) : Type 0 where
  pub size : Option ℕ
  pub has_size : IsSize text.form sight text.size size
  pub bytes : List ℕ
  pub are_bytes : AreBytes known sight text.fixed value bytes
  pub short : is_too_long text.form size (length bytes) ≡ false
  pub are_bits : bits ≡ bits_of (stored_text text.form size bytes)

-- the bits of a piece at a place
abbrev pub IsStored : Piece → Facts → ℕ → Sight → Option Tree → List Bool → Type 0
IsStored (OneNumber number) known at sight value bits = IsNumber number.form number.width number.fixed sight value bits
IsStored (OneText text) known at sight value bits = IsText text known sight value bits
IsStored (Zeros count) known at sight value bits = (value ≡ None) × (bits ≡ zeros count)
IsStored (Filler unit) known at sight value bits = (value ≡ None) × (bits ≡ zeros (missing unit at))
IsStored (Place name) known at sight value bits = (value ≡ None) × (sight.names.give (place_key name.bytes) ≡ Some (pos at)) × (bits ≡ [])

-- Plain values: what is stored tells them again.

-- the value of a number's expression tells the values of its names that weren't known before it
abbrev pub IsPlainNumber : Passed → ℤ → Option Term → Sight → Type 0
IsPlainNumber passed width None sight = Unit {0}
IsPlainNumber passed width (Some term) sight =
    (v : ℤ) → value_of term sight ≡ Ok v → SolvesBack (is_known passed) (nat_abs width) sight term (stored_number (nat_abs width) v)

-- a value of a text: each of its bytes is one, a `cstring` has no zero byte, no text is longer than its size leaves of it, and a
-- `string` with a size has no zero byte at its end
abbrev pub IsPlainZero : TextForm → List ℕ → Type 0
IsPlainZero texts.Zero bytes = AllByRecursion (λ byte. byte ≢ 0) bytes
IsPlainZero form bytes = Unit {0}

abbrev pub IsPlainShort : Option ℕ → List ℕ → Type 0
IsPlainShort None bytes = Unit {0}
IsPlainShort (Some size) bytes = length bytes ≤ size

abbrev pub IsPlainEnd : TextForm → Option ℕ → List ℕ → Type 0
IsPlainEnd texts.Open (Some size) bytes = (front : List ℕ) → bytes ≢ front ++ 0 ∷ []
IsPlainEnd form size bytes = Unit {0}

abbrev pub left_by : TextForm → Option ℕ → Option ℕ
left_by texts.Zero size = before_zero size
left_by form size = size

abbrev pub IsPlainText : TextForm → Option ℕ → List ℕ → Type 0
IsPlainText form size bytes = AllByRecursion (λ byte. byte < 256) bytes × IsPlainZero form bytes × IsPlainShort (left_by form size) bytes × IsPlainEnd form size bytes

abbrev pub IsPlainValue : PlainText → Sight → Option Tree → Type 0
IsPlainValue text sight value = (size : Option ℕ) (bytes : List ℕ) → IsSize text.form sight text.size size → value ≡ Some (trees.Text bytes) → IsPlainText text.form size bytes

-- what is asked of the value of a piece, beside that its bits stand at their place
abbrev pub Manner : Type 1
Manner = Passed → Piece → Sight → Option Tree → Type 0

abbrev pub anyhow : Manner
anyhow passed piece sight value = Unit {0}

abbrev pub plainly : Manner
plainly passed (OneNumber number) sight value = IsPlainNumber passed number.width number.fixed sight
plainly passed (OneText text) sight value = IsPlainValue text sight value
plainly passed piece sight value = Unit {0}

-- Late numbers.

-- an expression is late, where there is one; so is a number with it
abbrev pub is_late_value : Names → Late → Option Term → Sight → Bool
is_late_value met late None sight = false
is_late_value met late (Some term) sight = is_late met late term sight

abbrev pub is_late_piece : Names → Late → Piece → Sight → Bool
is_late_piece met late (OneNumber number) sight = is_late_value met late number.fixed sight
is_late_piece met late piece sight = false

-- one of the expressions is late
abbrev pub is_one_late : Names → Late → List Term → Sight → Bool
is_one_late met late [] sight = false
is_one_late met late (term ∷ terms) sight = is_late met late term sight || is_one_late met late terms sight

-- a text is late where one of its expressions is: no such text is spelled
abbrev pub is_late_size : Names → Late → Piece → Sight → Bool
is_late_size met late (OneText text) sight = is_one_late met late (terms_of_text text) sight
is_late_size met late piece sight = false

-- the marks of its bits: late or not
abbrev pub marks : Names → Late → Piece → Sight → ℕ → Late
marks met late piece sight count = replicate count (is_late_piece met late piece sight)

-- Spelling.

-- the most bits of a resource: those of 16,777,212 bytes
abbrev pub most_bits : ℕ
most_bits = 134217696

-- a piece is at its place among all bits, seen with the finished names; no piece ends after the most bits
pub record PieceSpells (how : Manner) (known : Facts) (all : List Bool) (names : Environment) (passed : Passed) (piece : Piece) (value : Option Tree) (at : ℕ)
    (late : Late) (after : ℕ) (late_after : Late) : Type 0 where
  pub bits : List Bool
  pub stored : IsStored piece known at (sees known all names at) value bits
  pub manner : how passed piece (sees known all names at) value
  pub early : is_late_size passed.met late piece (sees known all names at) ≡ false
  pub there : take (length bits) (drop at all) ≡ bits
  pub ends : after ≡ at + length bits
  pub short : after ≤ most_bits
  pub marked : late_after ≡ late ++ marks passed.met late piece (sees known all names at) (length bits)

-- a value in front of others, where there is one
abbrev pub put : Option Tree → List Tree → List Tree
put None values = values
put (Some value) values = value ∷ values

-- what is spelled from a place on, with the late marks before it and after it
abbrev pub RowSpells : Type 1
RowSpells = ℕ → Late → ℕ → Late → Type 0

-- one with its value or none, and the others after it
abbrev pub Then : (Option Tree → RowSpells) → (List Tree → RowSpells) → List Tree → RowSpells
Then One Others values at late after late_after =
    (value : Option Tree) × (rest : List Tree) × (mid : ℕ) × (late_mid : Late) × (values ≡ put value rest)
    × One value at late mid late_mid × Others rest mid late_mid after late_after

-- none, and nothing of the row is left
abbrev pub AtEnd : List Tree → RowSpells
AtEnd values at late after late_after = (values ≡ []) × (after ≡ at) × (late_after ≡ late)

-- pieces one after the other, each with its value or none
abbrev pub InOrder : (Passed → Piece → Option Tree → RowSpells) → Passed → List Piece → List Tree → RowSpells
InOrder Spells passed [] values = AtEnd values
InOrder Spells passed (piece ∷ pieces) values = Then (Spells passed piece) (InOrder Spells (behind_piece piece passed) pieces) values

-- a body with names of its own: those outside, and those that its fields give
abbrev pub Inside : PlainBody → Option RowOf → Environment → (Environment → RowSpells) → RowSpells
Inside body which outer Body at late after late_after = (own : Environment) × Within body which outer own × Body own at late after late_after

-- rows one after the other, of which the first has this number
abbrev pub RowsSpell : (ℕ → List Tree → RowSpells) → ℕ → List (List Tree) → RowSpells
RowsSpell Row number [] at late after late_after = (after ≡ at) × (late_after ≡ late)
RowsSpell Row number (row ∷ rows) at late after late_after =
    (mid : ℕ) × (late_mid : Late) × Row number row at late mid late_mid × RowsSpell Row (number + 1) rows mid late_mid after late_after

-- the name of the case that a value is
abbrev pub choice_of_tree : Tree-F Tree → List ℕ
choice_of_tree (Tree-F.Choice name row) = name.bytes
choice_of_tree value = []

abbrev pub choice_in : Option Tree → List ℕ
choice_in None = []
choice_in (Some value) = choice_of_tree (out-Tree value)

-- the value is the case of this name
abbrev pub is_case : Word → Option Tree → Bool
is_case name value = str_eq_ignore_ascii_case name.bytes (choice_in value)

module _ (how : Manner) (known : Facts) (all : List Bool) where
  -- a field without fields within it: its pieces
  abbrev pub PiecesSpell : PlainField → Environment → Passed → Option Tree → RowSpells
  PiecesSpell field names passed value at late after late_after =
      IsGroupedFor field value × InOrder (PieceSpells how known all names) passed (pieces_of field) (values_for field value) at late after late_after

  abbrev mutual
    -- a field, seen with the names of its body: an array is its rows, a switch is the fields of the case that is chosen
    pub FieldSpells : PlainField → Environment → Passed → Option Tree → RowSpells
    FieldSpells (Number number) names passed value = PiecesSpell (Number number) names passed value
    FieldSpells (Text text) names passed value = PiecesSpell (Text text) names passed value
    FieldSpells (Points points) names passed value = PiecesSpell (Points points) names passed value
    FieldSpells (Fill unit count) names passed value = PiecesSpell (Fill unit count) names passed value
    FieldSpells (Align unit) names passed value = PiecesSpell (Align unit) names passed value
    FieldSpells (Label name) names passed value = PiecesSpell (Label name) names passed value
    FieldSpells (Array name count row) names passed value = λ at late after late_after.
        (rows : List (List Tree)) × (value ≡ Some (trees.Rows rows)) × IsStated count (length rows) × IsCounted name (length rows) names × AreRows row (length rows) names
        × RowsSpell (λ number line. Inside row (row_of name number) names (λ own. BodySpells row own (at_front row passed) line)) 1 rows at late after late_after
    FieldSpells (Switch cases) names passed value = CaseSpells cases names passed value

    -- the first case that has the name of the value, with its key, a number among its fields
    pub CaseSpells : PlainCases → Environment → Passed → Option Tree → RowSpells
    CaseSpells no_cases names passed value = λ at late after late_after. ⊥
    CaseSpells (case_and name row others) names passed value = λ at late after late_after.
        By (is_case name value)
        ((line : List Tree) × (value ≡ Some (trees.Choice name line))
        × Inside row None names (λ own. BodySpells row own (at_front row passed) line) at late after late_after)
        (CaseSpells others names passed value at late after late_after)

    -- the fields of a body one after the other, each with its value or none
    pub BodySpells : PlainBody → Environment → Passed → List Tree → RowSpells
    BodySpells no_fields names passed values = AtEnd values
    BodySpells (field_and field fields) names passed values =
        Then (FieldSpells field names (at_field (field_and field fields) passed)) (BodySpells fields names (behind field (at_field (field_and field fields) passed))) values

-- how many values a row has: texts, numbers, those of points each, and rows of arrays
abbrev pub count_in_rows : List (List ℕ) → ℕ
count_in_rows rows = length rows + sum_by (λ counts. sum_by (λ count. count) counts) rows

abbrev pub count_step : Tree-F ℕ → ℕ
count_step (Tree-F.Number number) = 1
count_step (Tree-F.Text bytes) = 1
count_step (Tree-F.Group numbers) = length numbers
count_step (Tree-F.Rows rows) = count_in_rows rows
count_step (Tree-F.Choice name counts) = sum_by (λ count. count) counts

abbrev pub count_in : Tree → ℕ
count_in value = fold-Tree ℕ count_step value

abbrev pub values_in : List Tree → ℕ
values_in row = sum_by count_in row

-- in this manner the row spells these bytes: its fields one after the other from the first bit on, and then zero bits to a whole
-- byte
pub record Spelling (how : Manner) (known : Facts) (body : PlainBody) (row : List Tree) (bytes : List ℕ) : Type 0 where
  pub names : Environment
  pub own : Within body None outside names
  pub end : ℕ
  pub late : Late
  pub fields : BodySpells how known (bits_of bytes) body names (at_front body nothing_passed) row 0 [] end late
  pub filled : bits_of bytes ≡ filled 8 (take end (bits_of bytes))
  pub within : end ≤ length (bits_of bytes)
  pub are_bytes : (k : ℕ) → slice_index bytes k < 256

abbrev pub Spells : Facts → PlainBody → List Tree → List ℕ → Type 0
Spells known body row bytes = Spelling anyhow known body row bytes

-- plainly where the bytes tell the row again and it has at most 1,048,576 values
pub record SpellsPlainly (known : Facts) (body : PlainBody) (row : List Tree) (bytes : List ℕ) : Type 0 where
  pub spelling : Spelling plainly known body row bytes
  pub few : values_in row ≤ 1048576
