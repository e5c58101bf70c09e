-- Which bytes a row spells, as a list of pieces, each at its place. (MPW Rez.)
use Rattle.std.specs.Prelude.{◌≡◌, ℕ, ◌+◌, ◌≤◌, ◌<◌, Bool, false, List, [], ◌∷◌, ◌++◌, length, replicate, slice_index, Option, Some, None}
use Rattle.rz_core.specs.declared.facts.Facts.{Facts}
use Rattle.rz_expr.specs.Environment.{Environment, Sight}
use Rattle.rz_bits.specs.Bits.{bits_of}
use Rattle.rz_bits.specs.BitBuf.{filled}
use Rattle.rz_types_fields.specs.Passed.{at_field, at_front, behind, behind_piece, nothing_passed, outside, Passed}
use Rattle.rz_types_fields.specs.Piece.{pieces_of, Piece}
use Rattle.rz_types_fields.specs.Row.{By, IsStated}
use Rattle.rz_types_fields.specs.RowLabels.{row_of, RowOf}
use Rattle.rz_types_fields.specs.Sees.{sees, Late}
use Rattle.rz_types_fields.specs.Spells.{is_case, is_late_piece, is_late_size, most_bits, put, values_for, AreRows, IsCounted, IsGroupedFor, IsStored, Manner, Within}
use Rattle.rz_types_fields.specs.declared.tree.Tree.{Tree}
use Rattle.rz_types_fields.specs.declared.tree.Tree.TheVariants as trees
use Rattle.rz_types_fields.specs.Field.{case_and, field_and, no_cases, no_fields, Align, Array, Fill, Label, Number, PlainBody, PlainCases, PlainField, Points, Switch, Text}

-- A piece where it stands: its value or none, the finished names of its body, what the fields before it tell of names, its
-- place, its bits, and whether it is a late number.
pub record Placed : Type 0 where
  pub piece : Piece
  pub value : Option Tree
  pub names : Environment
  pub passed : Passed
  pub at : ℕ
  pub bits : List Bool
  pub late : Bool

-- The pieces of a row.

abbrev pub ArePieces : Type 1
ArePieces = List Placed → Type 0

abbrev pub NonePlaced : List Tree → ArePieces
NonePlaced values pieces = (values ≡ []) × (pieces ≡ [])

-- one with its value or none, and the others after it
abbrev pub OneAndOthers : (Option Tree → ArePieces) → (List Tree → ArePieces) → List Tree → ArePieces
OneAndOthers One Others values pieces =
    (value : Option Tree) × (rest : List Tree) × (front : List Placed) × (back : List Placed) × (values ≡ put value rest) × (pieces ≡ front ++ back)
    × One value front × Others rest back

-- a piece in a body with these names, wherever it stands
abbrev pub OnePlaced : Environment → Passed → Piece → Option Tree → ArePieces
OnePlaced names passed piece value pieces =
    (at : ℕ) × (bits : List Bool) × (late : Bool)
    × (pieces ≡ record { piece = piece; value = value; names = names; passed = passed; at = at; bits = bits; late = late } ∷ [])

abbrev pub InOrderPlaced : Environment → Passed → List Piece → List Tree → ArePieces
InOrderPlaced names passed [] values = NonePlaced values
InOrderPlaced names passed (piece ∷ others) values =
    OneAndOthers (OnePlaced names passed piece) (InOrderPlaced names (behind_piece piece passed) others) values

-- rows one after the other, of which the first has this number
abbrev pub RowsPlaced : (ℕ → List Tree → ArePieces) → ℕ → List (List Tree) → ArePieces
RowsPlaced Row number [] pieces = pieces ≡ []
RowsPlaced Row number (row ∷ rows) pieces =
    (front : List Placed) × (back : List Placed) × (pieces ≡ front ++ back) × Row number row front × RowsPlaced Row (number + 1) rows back

-- those of a body, which has names of its own beside those outside
abbrev pub InsidePlaced : PlainBody → Option RowOf → Environment → (Environment → ArePieces) → ArePieces
InsidePlaced body which outer Body pieces = (own : Environment) × Within body which outer own × Body own pieces

-- those of a field without fields within it
abbrev pub LeafPlaced : PlainField → Environment → Passed → Option Tree → ArePieces
LeafPlaced field names passed value pieces = IsGroupedFor field value × InOrderPlaced names passed (pieces_of field) (values_for field value) pieces

abbrev mutual
  -- those of a field: of an array those of its rows, of a switch those of the case that is chosen
  pub FieldPlaced : PlainField → Environment → Passed → Option Tree → ArePieces
  FieldPlaced (Number number) names passed value pieces = LeafPlaced (Number number) names passed value pieces
  FieldPlaced (Text text) names passed value pieces = LeafPlaced (Text text) names passed value pieces
  FieldPlaced (Points points) names passed value pieces = LeafPlaced (Points points) names passed value pieces
  FieldPlaced (Fill unit count) names passed value pieces = LeafPlaced (Fill unit count) names passed value pieces
  FieldPlaced (Align unit) names passed value pieces = LeafPlaced (Align unit) names passed value pieces
  FieldPlaced (Label name) names passed value pieces = LeafPlaced (Label name) names passed value pieces
  FieldPlaced (Array name count row) names passed value pieces =
      (rows : List (List Tree)) × (value ≡ Some (trees.Rows rows)) × IsStated count (length rows) × IsCounted name (length rows) names × AreRows row (length rows) names
      × RowsPlaced (λ number line. InsidePlaced row (row_of name number) names (λ own. BodyPlaced row own (at_front row passed) line)) 1 rows pieces
  FieldPlaced (Switch cases) names passed value pieces = CasePlaced cases names passed value pieces

  -- the first case that has the name of the value
  pub CasePlaced : PlainCases → Environment → Passed → Option Tree → ArePieces
  CasePlaced no_cases names passed value pieces = ⊥
  CasePlaced (case_and name row others) names passed value pieces =
      By (is_case name value)
      ((line : List Tree) × (value ≡ Some (trees.Choice name line))
      × InsidePlaced row None names (λ own. BodyPlaced row own (at_front row passed) line) pieces)
      (CasePlaced others names passed value pieces)

  -- those of the fields of a body, one field after the other, each with its value or none
  pub BodyPlaced : PlainBody → Environment → Passed → List Tree → ArePieces
  BodyPlaced no_fields names passed values = NonePlaced values
  BodyPlaced (field_and field fields) names passed values =
      OneAndOthers (FieldPlaced field names (at_field (field_and field fields) passed))
      (BodyPlaced fields names (behind field (at_field (field_and field fields) passed))) values

abbrev pub RowPlaced : PlainBody → List Tree → ArePieces
RowPlaced body row = InsidePlaced body None outside (λ own. BodyPlaced body own (at_front body nothing_passed) row)

-- Where they stand.

-- the bits of pieces, one piece after the other
abbrev pub bits_in : List Placed → List Bool
bits_in [] = []
bits_in (one ∷ others) = one.bits ++ bits_in others

-- a mark for each of them: of a late number or not
abbrev pub marks_in : List Placed → Late
marks_in [] = []
marks_in (one ∷ others) = replicate (length one.bits) one.late ++ marks_in others

-- what an expression of a piece sees among all bits: the finished names, and the bits before its place
abbrev pub seen_from : Facts → List Bool → Placed → Sight
seen_from known all one = sees known all one.names one.at

-- a piece stands after those before it, and its bits are what its value or its expression gives there
pub record StandsAfter (how : Manner) (known : Facts) (all : List Bool) (before : List Placed) (one : Placed) : Type 0 where
  pub at : one.at ≡ length (bits_in before)
  pub stored : IsStored one.piece known one.at (seen_from known all one) one.value one.bits
  pub manner : how one.passed one.piece (seen_from known all one) one.value
  pub late : one.late ≡ is_late_piece one.passed.met (marks_in before) one.piece (seen_from known all one)
  pub early : is_late_size one.passed.met (marks_in before) one.piece (seen_from known all one) ≡ false

-- In this manner the row is these bytes: there is a list of its pieces, each stands after those before it, and their bits are
-- all bits, but for zero bits to a whole byte.
pub record IsPlaced (how : Manner) (known : Facts) (body : PlainBody) (row : List Tree) (bytes : List ℕ) : Type 0 where
  pub pieces : List Placed
  pub of_row : RowPlaced body row pieces
  pub stand : (before : List Placed) (one : Placed) (others : List Placed) → pieces ≡ before ++ one ∷ others → StandsAfter how known (bits_of bytes) before one
  pub all : bits_of bytes ≡ filled 8 (bits_in pieces)
  pub short : length (bits_in pieces) ≤ most_bits
  pub are_bytes : (k : ℕ) → slice_index bytes k < 256
