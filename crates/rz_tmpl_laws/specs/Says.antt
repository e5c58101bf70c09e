-- What bytes say under the entries of a template: which values of a row, piece after piece. (ResEdit Reference, 'TMPL'
-- resources.)
use Rattle.std.specs.Prelude.{◌≡◌, ◌≢◌, ℕ, ◌+◌, ◌%◌, ◌^◌, ◌<◌, ◌≤◌, if◌then◌else◌, List, [], ◌∷◌, ◌++◌, length, take, drop, replicate, slice_index, Option, Some, None}
use Rattle.std.specs.List.{flat_map, AllByRecursion}
use Rattle.rz_bits.specs.BitBuf.{missing}
use Rattle.rz_core.specs.Numbers.{be}
use Rattle.rz_tmpl.specs.Entry.{takes}
use Rattle.rz_tmpl.specs.Items.{count, list, none, one, Items}
use Rattle.rz_tmpl.specs.declared.entry.CountForm.{CountForm}
use Rattle.rz_tmpl.specs.declared.entry.CountForm.TheVariants.{LessOne, Rows}
use Rattle.rz_tmpl.specs.declared.entry.ListForm.TheVariants.{Counted, Uncounted}
use Rattle.rz_tmpl.specs.declared.entry.Plain.{Plain}
use Rattle.rz_tmpl.specs.declared.entry.Plain.TheVariants.{Aligned, Character, Number, Pascal, Rectangle, Rest, TypeName, ZeroEnded, Zeros}
use Rattle.rz_tmpl.specs.declared.entry.Size.{Size}
use Rattle.rz_tmpl.specs.declared.entry.Size.TheVariants.{Byte, Long, Word}
use Rattle.rz_types_fields.specs.Spells.{put, values_in}
use Rattle.rz_types_fields.specs.declared.tree.Tree.{out-Tree, Tree}
use Rattle.rz_types_fields.specs.declared.tree.Tree.TheOpen.{Tree-F}
use Rattle.rz_types_fields.specs.declared.tree.Tree.TheVariants as trees

-- Pieces.

abbrev pub bytes_of : Size → ℕ
bytes_of Byte = 1
bytes_of Word = 2
bytes_of Long = 4

-- a number in so many bytes, the highest first
abbrev pub IsNumberIn : ℕ → Option Tree → List ℕ → Type 0
IsNumberIn size value piece = (n : ℕ) × (value ≡ Some (trees.Number n)) × (n < 256 ^ size) × (piece ≡ be size n)

-- the value of an entry at a place, or that it has none, and its bytes
abbrev pub IsPiece : Plain → (place : ℕ) → Option Tree → List ℕ → Type 0
IsPiece (Number size hex) place value piece = IsNumberIn (bytes_of size) value piece
IsPiece Character place value piece = IsNumberIn 1 value piece
IsPiece TypeName place value piece = IsNumberIn 4 value piece
IsPiece Rectangle place value piece =
    (numbers : List ℕ) × (value ≡ Some (trees.Group numbers)) × (length numbers ≡ 4) × AllByRecursion (λ n. n < 65536) numbers × (piece ≡ flat_map (be 2) numbers)
IsPiece (Zeros size) place value piece = (value ≡ None) × (piece ≡ replicate (bytes_of size) 0)
IsPiece (Aligned size) place value piece = (value ≡ None) × (piece ≡ replicate (missing (bytes_of size) place) 0)
IsPiece Pascal place value piece = (text : List ℕ) × (value ≡ Some (trees.Text text)) × (length text < 256) × (piece ≡ length text ∷ text)
IsPiece ZeroEnded place value piece = (text : List ℕ) × (value ≡ Some (trees.Text text)) × AllByRecursion (λ byte. byte ≢ 0) text × (piece ≡ text ++ 0 ∷ [])
IsPiece Rest place value piece = value ≡ Some (trees.Text piece)

-- these bytes stand at a place, and end at another
pub record IsThere (bytes : List ℕ) (place : ℕ) (piece : List ℕ) (after : ℕ) : Type 0 where
  pub there : take (length piece) (drop place bytes) ≡ piece
  pub ends : after ≡ place + length piece

-- Counts.

abbrev pub rows_of : Tree-F Tree → ℕ
rows_of (Tree-F.Rows rows) = length rows
rows_of value = 0

-- the rows of the first of these values
abbrev pub rows_first : List Tree → ℕ
rows_first [] = 0
rows_first (value ∷ values) = rows_of (out-Tree value)

-- the rows of the next counted list of a body, in the values of what follows
abbrev pub rows_ahead : Items → List Tree → ℕ
rows_ahead none values = 0
rows_ahead (one plain rest) values = rows_ahead rest (if takes plain then drop 1 values else values)
rows_ahead (count form rest) values = rows_ahead rest values
rows_ahead (list Counted row rest) values = rows_first values
rows_ahead (list Uncounted row rest) values = rows_ahead rest (drop 1 values)

-- the number that says so many rows: itself, or one less modulo 65,536
abbrev pub stored_count : CountForm → ℕ → ℕ
stored_count Rows rows = rows
stored_count LessOne rows = (rows + 65535) % 65536

-- Bodies.

-- rows one after the other, each by a rule, from one place to another
abbrev pub RowsSay : (List Tree → ℕ → ℕ → Type 0) → List (List Tree) → ℕ → ℕ → Type 0
RowsSay RowSays [] place after = after ≡ place
RowsSay RowSays (row ∷ rows) place after = (next : ℕ) × RowSays row place next × RowsSay RowSays rows next after

-- the bytes from one place to another say these values of a body
abbrev pub BodySays : List ℕ → Items → List Tree → ℕ → ℕ → Type 0
BodySays bytes none values place after = (values ≡ []) × (after ≡ place)
BodySays bytes (one plain rest) values place after =
    (value : Option Tree) × (others : List Tree) × (piece : List ℕ) × (next : ℕ)
    × (values ≡ put value others) × IsPiece plain place value piece × IsThere bytes place piece next × BodySays bytes rest others next after
BodySays bytes (count form rest) values place after =
    (next : ℕ) × (rows_ahead rest values ≤ 65535) × IsThere bytes place (be 2 (stored_count form (rows_ahead rest values))) next × BodySays bytes rest values next after
BodySays bytes (list form row rest) values place after =
    (rows : List (List Tree)) × (others : List Tree) × (next : ℕ)
    × (values ≡ trees.Rows rows ∷ others) × RowsSay (BodySays bytes row) rows place next × BodySays bytes rest others next after

-- the bytes, from the first to the last, say this row
pub record Says (items : Items) (row : List Tree) (bytes : List ℕ) : Type 0 where
  pub said : BodySays bytes items row 0 (length bytes)
  pub few : values_in row ≤ 1048576
  pub short : length bytes ≤ 16777212
  pub are_bytes : (k : ℕ) → slice_index bytes k < 256
