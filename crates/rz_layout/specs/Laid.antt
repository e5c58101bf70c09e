-- What the code has laid, and what a call gives of it.
use Rattle.std.specs.Prelude.{◌≡◌, ℕ, ◌+◌, ◌≤◌, ◌<◌, ℤ, nat_abs, nat_lt, Bool, true, false, List, [], ◌∷◌, ◌++◌, ◌||◌, length, map, take, drop, Option, None, Some, Ok, Err}
use Rattle.std.specs.Option.{is_some}
use Rattle.std.specs.declared.result.Result.{Result}
use Rattle.rz_core.specs.declared.resource.Word.{Word}
use Rattle.rz_core.specs.declared.stop.Stop.{Stop}
use Rattle.rz_core.specs.declared.stop.Stop.TheVariants.{NoMemory, Refused}
use Rattle.rz_bits.specs.BitBuf.{zeros}
use Rattle.rz_bits.specs.Bits.{number_bits}
use Rattle.rz_expr.specs.Environment.{Environment, Key}
use Rattle.rz_expr.specs.Term.{Term}
use Rattle.rz_layout.specs.Fault.{refusal_of}
use Rattle.rz_layout.specs.Sound.{IsWidth}
use Rattle.rz_layout.specs.Late.{closed_by, numbers_in}
use Rattle.rz_layout.specs.declared.fault.LayFault.{LayFault}
use Rattle.rz_layout.specs.declared.laid.Laid.{Laid}
use Rattle.rz_core.specs.Stop.{◌>>=◌}
use Rattle.rz_core.specs.declared.facts.Facts.{Facts}
use Rattle.rz_types_fields.specs.declared.field.NumForm.{NumForm}
use Rattle.rz_types_fields.specs.declared.field.TextForm.{TextForm}
use Rattle.rz_types_fields.specs.declared.names.Note.{Note}
use Rattle.rz_types_fields.specs.declared.tree.Tree.{Tree}
use Rattle.rz_types_fields.specs.Front.{value_inside}
use Rattle.rz_types_fields.specs.Known.{known, noted}
use Rattle.rz_types_fields.specs.Laid.{bytes_given, bytes_laid, grown, late_at, late_bits, later, most_kept, now, number_form, patched, size_in, too_long, with_room, Draft, Form, LateNumber, Refusal}
use Rattle.rz_types_fields.specs.Passed.{declares, stands_at, Names}
use Rattle.rz_types_fields.specs.Piece.{Place, Zeros}
use Rattle.rz_layout.specs.declared.late.Late.{Late as HeldLate}
use Rattle.rz_types_fields.specs.FlatRows.{labels_count}
use Rattle.rz_types_fields.specs.RowLabels.{RowOf}
use Rattle.rz_types_fields.specs.Sees.{marked}
use Rattle.rz_types_fields.specs.Spells.{most_bits}
use Rattle.rz_types_fields.specs.Field.{field_and, no_fields, Array, Label, PlainBody, PlainField, PlainText}

abbrev pub draft_of : Laid → Draft
draft_of laid = record {
  piece = laid.piece;
  bits = laid.bits;
  late = marked (length laid.bits) laid.marks;
  known = known laid.notes.items;
  numbers = numbers_in laid.late;
}

-- no more bits than a resource may have, marks of no more bits than there are, and pieces that can be counted
pub record IsShort (laid : Laid) : Type 0 where
  pub few : length laid.bits ≤ most_bits
  pub marks : length laid.marks ≤ length laid.bits
  pub pieces : laid.piece ≤ most_kept

-- so many bits more are allowed, or are refused as 301
abbrev pub HasRoom : Draft → ℕ → Result (Unit {0}) (Stop LayFault) → Type 0
HasRoom draft count (Ok nothing) = length draft.bits + count ≤ most_bits
HasRoom draft count (Err (Refused fault)) =
    (most_bits < length draft.bits + count) × (refusal_of fault ≡ too_long draft (length draft.bits + count))
HasRoom draft count (Err NoMemory) = ⊥

-- the draft after a piece with these bits, which is no label
abbrev pub with_bits : Draft → List Bool → Result Draft Refusal
with_bits draft bits = with_room draft (length bits) (grown (Zeros 0) draft bits false [])

-- the draft after a label
abbrev pub with_place : Draft → Word → Result Draft Refusal
with_place draft name = with_room draft 0 (grown (Place name) draft [] false [])

-- the draft after a number that is computed later
abbrev pub with_late : Draft → NumForm → ℤ → Term → Result Draft Refusal
with_late draft form width term =
    with_room draft (nat_abs width) (grown (Zeros 0) draft (zeros (nat_abs width)) true (late_at draft form width term ∷ []))

-- what the first pass makes of the number of an expression: it is left for later, or it is this number
abbrev pub form_of : NumForm → ℤ → Term → Option ℕ → Form
form_of form width term None = later form width term
form_of form width term (Some number) = now (number_bits (nat_abs width) number)

abbrev pub made : NumForm → ℤ → Term → Result (Option ℕ) LayFault → Result Form Refusal
made form width term (Ok number) = Ok (form_of form width term number)
made form width term (Err fault) = Err (refusal_of fault)

-- the bits of a number
abbrev pub bits_made : ℤ → Result ℕ LayFault → Result (List Bool) Refusal
bits_made width (Ok number) = Ok (number_bits (nat_abs width) number)
bits_made width (Err fault) = Err (refusal_of fault)

-- the draft after a piece of this form
abbrev pub form_put : Draft → Form → Result Draft Refusal
form_put draft (now bits) = with_bits draft bits
form_put draft (later form width term) = with_late draft form width term

-- the draft after the value of an expression, or after zero bits for it
abbrev pub value_put : Facts → Draft → NumForm → ℤ → Term → Result Draft Refusal
value_put facts draft form width term = number_form facts draft form width (Some term) None >>= form_put draft

-- notes were only added at the end, and none of them is of a name that isn't given
pub record IsNotedBy (gives : Names) (old new : List Note) : Type 0 where
  pub more : List Note
  pub grew : new ≡ old ++ more
  pub others : (key : Key) (before : Option ℤ) → gives key ≡ false → noted before more key ≡ before

abbrev pub IsPlacedBy : Word → List Note → List Note → Type 0
IsPlacedBy name old new = IsNotedBy (stands_at name.bytes) old new

-- the draft after the bits of bytes with this size
abbrev pub text_put : Draft → TextForm → Option ℤ → List ℕ → Result Draft Refusal
text_put draft form size bytes = bytes_laid draft.piece form size bytes >>= with_bits draft

-- the draft after a text whose size is known
abbrev pub sized_put : Facts → Draft → PlainText → Option ℤ → Option Tree → Result Draft Refusal
sized_put facts draft text size value = bytes_given facts draft text.fixed value >>= λ bytes. text_put draft text.form size bytes

-- the draft after a text whose expressions name no label that stands later
abbrev pub placed_put : Facts → Draft → PlainText → Option Tree → Result Draft Refusal
placed_put facts draft text value = size_in facts draft text.size >>= λ size. sized_put facts draft text size value

-- a body was entered: notes say what its names have at its front, and the others after these are of its own names
pub record IsEntered (which : Option RowOf) (body : PlainBody) (old new : List Note) : Type 0 where
  pub front : List Note
  pub more : List Note
  pub grew : new ≡ old ++ front ++ more
  pub values : (key : Key) (before : Option ℤ) → noted before front key ≡ value_inside which body key before
  pub others : (key : Key) (before : Option ℤ) → declares body key ≡ false → noted before more key ≡ before

-- a field has names: a label has, and an array where it was given one, or where a label stands directly in its rows
abbrev pub has_name : PlainField → Bool
has_name (Array name count row) = is_some name || nat_lt 0 (labels_count row)
has_name (Label name) = true
has_name field = false

-- the body is a row of an array with a name
abbrev pub is_in_named : Option RowOf → Bool
is_in_named None = false
is_in_named (Some row) = is_some row.name

-- one of the fields of a body has, without those within
abbrev pub has_names : PlainBody → Bool
has_names no_fields = false
has_names (field_and field fields) = has_name field || has_names fields

-- the late numbers of a body with these notes after its end: they keep the notes where the body has names,
-- or is a row of an array with a name
abbrev pub kept_late : Bool → List Note → List LateNumber → List LateNumber
kept_late true notes numbers = map (closed_by notes) numbers
kept_late false notes numbers = numbers

-- a body was left, of which so many notes and these late numbers stood before it
pub record IsLeft (which : Option RowOf) (body : PlainBody) (outer : List HeldLate) (around : ℕ) (old new : Laid) : Type 0 where
  pub piece : new.piece ≡ old.piece
  pub bits : new.bits ≡ old.bits
  pub marks : new.marks ≡ old.marks
  pub notes : new.notes.items ≡ take around old.notes.items
  pub late : numbers_in new.late ≡ numbers_in outer ++ kept_late (is_in_named which || has_names body) (drop around old.notes.items) (numbers_in old.late)

-- a late number whose bits stand among so many, and whose width may be
pub record IsWithin (count : ℕ) (one : LateNumber) : Type 0 where
  pub width : IsWidth one.width
  pub stands : one.at + nat_abs one.width ≤ count

-- the bits with a late number in its place
abbrev pub filled_by : Facts → Environment → LateNumber → List Bool → Result (List Bool) Refusal
filled_by facts names one bits = late_bits facts names one bits >>= λ own. Ok (patched one.at own bits)
