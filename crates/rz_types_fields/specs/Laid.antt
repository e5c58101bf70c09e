-- The bytes that a row gives, field by field and then the late numbers, or the first refusal. (MPW Rez.)
use Rattle.std.specs.Prelude.{◌≡◌, ℕ, ◌+◌, ◌/◌, min, ℤ, pos, nat_abs, nat_le, nat_lt, not, Bool, true, false, ◌||◌, if◌then◌else◌, List, [], ◌∷◌, ◌++◌, length, map, take, drop, replicate, Option, Some, None, option_map, Ok, Err}
use Rattle.std.specs.List.{list_any}
use Rattle.std.specs.Option.{is_none, is_some}
use Rattle.std.specs.declared.result.Result.{Result}
use Rattle.rz_core.specs.Lists.{first_of, unless_fault}
use Rattle.rz_core.specs.Stop.{◌>>=◌}
use Rattle.rz_core.specs.declared.facts.Facts.{Facts}
use Rattle.rz_core.specs.declared.resource.Word.{Word}
use Rattle.rz_core.specs.declared.fault.Fault.{Fault}
use Rattle.rz_core.specs.declared.fault.Kept.{Kept}
use Rattle.rz_core.specs.declared.fault.Kept.TheVariants as kept
use Rattle.rz_expr.specs.Environment.{Environment, Sight}
use Rattle.rz_expr.specs.Term.{Term}
use Rattle.rz_expr.specs.Value.{value_of}
use Rattle.rz_expr.specs.declared.value.EvalFault.{EvalFault}
use Rattle.rz_expr.specs.declared.value.EvalFault.TheVariants.{BadIndex, BadShift, DataWidth, LaterData, UnknownName, ZeroDivisor}
use Rattle.rz_bits.specs.Bits.{bits_of, bytes_of, number_bits}
use Rattle.rz_bits.specs.BitBuf.{filled, missing, zeros}
use Rattle.rz_types_fields.specs.Field.{case_and, field_and, no_cases, no_fields, takes_value, Align, Array, Fill, Label, Number, PlainBody, PlainCases, PlainField, PlainText, Points, Switch, Text}
use Rattle.rz_types_fields.specs.Front.{names_inside}
use Rattle.rz_types_fields.specs.RowLabels.{also_rows, is_row, row_of, RowOf}
use Rattle.rz_types_fields.specs.Range.{fits_number, may_be_size}
use Rattle.rz_types_fields.specs.Passed.{declares, gives_count, outside, stands_at, Names}
use Rattle.rz_types_fields.specs.Piece.{pieces_of, terms_of_text, Filler, OneNumber, OneText, Piece, Place, Zeros}
use Rattle.rz_types_fields.specs.Sees.{beside, names_later, sees, Late}
use Rattle.rz_types_fields.specs.Stored.{is_too_long, stored_number, stored_text}
use Rattle.rz_types_fields.specs.Text.{bytes_seen, text_terms, PlainPart}
use Rattle.rz_types_fields.specs.declared.field.NumForm.{NumForm}
use Rattle.rz_types_fields.specs.declared.field.TextForm.{TextForm}
use Rattle.rz_types_fields.specs.Row.{IsRow}
use Rattle.rz_types_fields.specs.Spells.{is_case, most_bits, nowhere, values_for}
use Rattle.rz_types_fields.specs.declared.tree.Tree.{out-Tree, Tree}
use Rattle.rz_types_fields.specs.declared.tree.Tree.TheOpen.{Tree-F}

-- why no bytes are given: the number of the fault, the piece, from 0, and the number that the fault keeps, or 0
pub record Refusal : Type 0 where
  pub number : ℕ
  pub piece : ℕ
  pub value : ℤ

abbrev pub refusal : ℕ → ℕ → ℤ → Refusal
refusal number piece value = record { number = number; piece = piece; value = value }

-- the most that a refusal keeps of a number that counts
abbrev pub most_kept : ℕ
most_kept = 9223372036854775807

abbrev pub one_more : ℕ → ℕ
one_more count = if nat_lt count most_kept then count + 1 else count

-- A number that is computed after all others: its piece, the place of its bits, its type and width, its expression, and what the
-- names in it have in the end by those of the body that is being laid.
pub record LateNumber : Type 0 where
  pub piece : ℕ
  pub at : ℕ
  pub form : NumForm
  pub width : ℤ
  pub term : Term
  pub names : Environment → Environment

-- What is laid so far: the number of pieces, their bits, which are zero where they are late, a mark for each bit that says
-- whether it is late, the values that names have there, and the late numbers.
pub record Draft : Type 0 where
  pub piece : ℕ
  pub bits : List Bool
  pub late : Late
  pub known : Environment
  pub numbers : List LateNumber

abbrev pub nothing_laid : Draft
nothing_laid = record { piece = 0; bits = []; late = []; known = outside; numbers = [] }

-- what an expression sees after what is laid so far: all bits but those of late numbers
abbrev pub draft_sight : Facts → Draft → Sight
draft_sight known draft = beside draft.late (sees known draft.bits draft.known (length draft.bits))

-- a name has a value there
abbrev pub met_in : Environment → Names
met_in names key = is_some (names.give key)

-- Values and their refusals.

-- why an expression of a field has no value: 211, 213, 215 and 223; a field's expression names nothing that has no value
abbrev pub value_refusal : ℕ → EvalFault → Refusal
value_refusal piece ZeroDivisor = refusal 211 piece (pos 0)
value_refusal piece (UnknownName word) = refusal 203 piece (pos 0)
value_refusal piece (BadIndex number) = refusal 223 piece number
value_refusal piece (LaterData first end) = refusal 213 piece end
value_refusal piece (DataWidth width) = refusal 213 piece width
value_refusal piece (BadShift count) = refusal 215 piece count

abbrev pub valued : ℕ → Result ℤ EvalFault → Result ℤ Refusal
valued piece (Ok value) = Ok value
valued piece (Err fault) = Err (value_refusal piece fault)

-- bits in bounds are missing where they are late
abbrev pub reads_late : ℕ → EvalFault → Bool
reads_late at (LaterData (pos first) (pos end)) = nat_le end at
reads_late at fault = false

-- what a value is: a number, bytes, rows, the name of a case and its row
abbrev pub number_of_tree : Tree-F Tree → ℕ
number_of_tree (Tree-F.Number number) = number
number_of_tree value = 0

abbrev pub number_in : Option Tree → ℕ
number_in None = 0
number_in (Some value) = number_of_tree (out-Tree value)

abbrev pub text_of_tree : Tree-F Tree → List ℕ
text_of_tree (Tree-F.Text bytes) = bytes
text_of_tree value = []

abbrev pub text_in : Option Tree → List ℕ
text_in None = []
text_in (Some value) = text_of_tree (out-Tree value)

abbrev pub rows_of_tree : Tree-F Tree → List (List Tree)
rows_of_tree (Tree-F.Rows rows) = rows
rows_of_tree value = []

abbrev pub rows_in : Option Tree → List (List Tree)
rows_in None = []
rows_in (Some value) = rows_of_tree (out-Tree value)

abbrev pub line_of_tree : Tree-F Tree → List Tree
line_of_tree (Tree-F.Choice name row) = row
line_of_tree value = []

abbrev pub line_in : Option Tree → List Tree
line_in None = []
line_in (Some value) = line_of_tree (out-Tree value)

-- this, unless a test holds
abbrev pub unless : {A : Type 0} → Bool → A → Option A
unless holds x = if holds then None else Some x

-- the bits of a value, which is in the range of the field: 207
abbrev pub ranged : ℕ → NumForm → ℤ → ℤ → Result (List Bool) Refusal
ranged piece form width value =
    unless_fault (unless (fits_number form width value) (refusal 207 piece value)) (number_bits (nat_abs width) (stored_number (nat_abs width) value))

-- what the first pass makes of a piece: its bits, or a number that is left for later
pub data Form : Type 0 where
  now : (bits : List Bool) → Form
  later : (form : NumForm) (width : ℤ) (term : Term) → Form

abbrev pub fixed_form : Draft → NumForm → ℤ → Term → Result ℤ EvalFault → Result Form Refusal
fixed_form draft form width term (Ok value) = ranged draft.piece form width value >>= λ bits. Ok (now bits)
fixed_form draft form width term (Err fault) =
    if reads_late (length draft.bits) fault then Ok (later form width term) else Err (value_refusal draft.piece fault)

-- the number of a field: the row's, or that of its expression, which is left for later where it names a label that stands later,
-- or where it reads late bits
abbrev pub number_form : Facts → Draft → NumForm → ℤ → Option Term → Option Tree → Result Form Refusal
number_form known draft form width None value = Ok (now (number_bits (nat_abs width) (number_in value)))
number_form known draft form width (Some term) value =
    if names_later (met_in draft.known) term then Ok (later form width term)
    else fixed_form draft form width term (value_of term (draft_sight known draft))

-- the value of an expression that can't be left for later: 214 where it reads late bits
abbrev pub early_value : Draft → Result ℤ EvalFault → Result ℤ Refusal
early_value draft (Ok value) = Ok value
early_value draft (Err fault) =
    Err (if reads_late (length draft.bits) fault then refusal 214 draft.piece (pos draft.piece) else value_refusal draft.piece fault)

abbrev pub early : Facts → Draft → Term → Result ℤ Refusal
early known draft term = early_value draft (value_of term (draft_sight known draft))

-- the size of a text, where it has one
abbrev pub size_in : Facts → Draft → Option Term → Result (Option ℤ) Refusal
size_in known draft None = Ok None
size_in known draft (Some term) = early known draft term >>= λ size. Ok (Some size)

-- the number that a fault keeps
abbrev pub kept_number : Kept → ℤ
kept_number (kept.Number number) = number
kept_number other = pos 0

-- the bytes of fixed parts
abbrev pub joined : ℕ → Result (List ℕ) Fault → Result (List ℕ) Refusal
joined piece (Ok bytes) = Ok bytes
joined piece (Err fault) = Err (refusal fault.number piece (kept_number fault.kept))

-- why an expression has no value, where it has none
abbrev pub refusal_in : Result ℤ Refusal → Option Refusal
refusal_in (Ok value) = None
refusal_in (Err fault) = Some fault

abbrev pub unvalued : Facts → Draft → Term → Option Refusal
unvalued known draft term = refusal_in (early known draft term)

-- a refusal that comes first, where there is one
abbrev pub behind_refusal : {A : Type 0} → Option Refusal → Result A Refusal → Result A Refusal
behind_refusal None other = other
behind_refusal (Some fault) other = Err fault

-- the numbers of all formats in the parts are computed before a format is filled
abbrev pub fixed_bytes : Facts → Draft → List PlainPart → Result (List ℕ) Refusal
fixed_bytes known draft parts =
    behind_refusal (first_of (map (unvalued known draft) (text_terms parts))) (joined draft.piece (bytes_seen nowhere known (draft_sight known draft) parts))

-- the bytes of a text: the row's, or those of the fixed parts
abbrev pub bytes_given : Facts → Draft → Option (List PlainPart) → Option Tree → Result (List ℕ) Refusal
bytes_given known draft None value = Ok (text_in value)
bytes_given known draft (Some parts) value = fixed_bytes known draft parts

-- 207 for a size that the text may not have
abbrev pub bad_size : ℕ → TextForm → Option ℤ → Option Refusal
bad_size piece form None = None
bad_size piece form (Some size) = unless (may_be_size form size) (refusal 207 piece size)

-- 216 for a text without a size whose length can't be said
abbrev pub bad_length : ℕ → TextForm → Option ℤ → ℕ → Option Refusal
bad_length piece form size count = unless (not (is_too_long form (option_map nat_abs size) count)) (refusal 216 piece (pos count))

-- why so many bytes have no stored form with this size
abbrev pub text_refusal : ℕ → TextForm → Option ℤ → ℕ → Option Refusal
text_refusal piece form size count = first_of (bad_size piece form size ∷ bad_length piece form size count ∷ [])

-- the bits of bytes with this size
abbrev pub bytes_laid : ℕ → TextForm → Option ℤ → List ℕ → Result (List Bool) Refusal
bytes_laid piece form size bytes = unless_fault (text_refusal piece form size (length bytes)) (bits_of (stored_text form (option_map nat_abs size) bytes))

-- 214 for a text of which an expression names a label that stands later
abbrev pub later_size : Draft → List Term → Option Refusal
later_size draft terms = unless (not (list_any (names_later (met_in draft.known)) terms)) (refusal 214 draft.piece (pos draft.piece))

-- the bits of a text, or the first refusal: of a label that stands later, of its size's value, of the numbers of its formats, of a
-- format, of its size, of its length
abbrev pub text_laid : Facts → Draft → PlainText → Option Tree → Result (List Bool) Refusal
text_laid known draft text value =
    behind_refusal (later_size draft (terms_of_text text))
    (size_in known draft text.size >>= λ size. bytes_given known draft text.fixed value >>= λ bytes. bytes_laid draft.piece text.form size bytes)

abbrev pub piece_form : Facts → Draft → Piece → Option Tree → Result Form Refusal
piece_form known draft (OneNumber number) value = number_form known draft number.form number.width number.fixed value
piece_form known draft (OneText text) value = text_laid known draft text value >>= λ bits. Ok (now bits)
piece_form known draft (Zeros count) value = Ok (now (zeros count))
piece_form known draft (Filler unit) value = Ok (now (zeros (missing unit (length draft.bits))))
piece_form known draft (Place name) value = Ok (now [])

-- Laying.

-- a length in bytes, rounded up, as a refusal keeps it
abbrev pub in_bytes : ℕ → ℕ
in_bytes bits = min ((bits + 7) / 8) most_kept

-- 301 for a piece that ends after the most bits, with the length to its end
abbrev pub too_long : Draft → ℕ → Refusal
too_long draft end = refusal 301 draft.piece (pos (in_bytes end))

abbrev pub with_room : Draft → ℕ → Draft → Result Draft Refusal
with_room draft count next =
    if nat_lt most_bits (length draft.bits + count) then Err (too_long draft (length draft.bits + count)) else Ok next

-- a label has its place, and every other name what it has
abbrev pub placed : Piece → ℕ → Environment → Environment
placed (Place name) at names = record { give = λ key. if stands_at name.bytes key then Some (pos at) else names.give key }
placed piece at names = names

-- a piece with these bits more
abbrev pub grown : Piece → Draft → List Bool → Bool → List LateNumber → Draft
grown piece draft bits is_late numbers = record {
  piece = one_more draft.piece;
  bits = draft.bits ++ bits;
  late = draft.late ++ replicate (length bits) is_late;
  known = placed piece (length draft.bits) draft.known;
  numbers = draft.numbers ++ numbers;
}

abbrev pub late_at : Draft → NumForm → ℤ → Term → LateNumber
late_at draft form width term = record { piece = draft.piece; at = length draft.bits; form = form; width = width; term = term; names = λ names. names }

-- zero bits stand where a number is left for later
abbrev pub with_form : Draft → Piece → Form → Result Draft Refusal
with_form draft piece (now bits) = with_room draft (length bits) (grown piece draft bits false [])
with_form draft piece (later form width term) =
    with_room draft (nat_abs width) (grown piece draft (zeros (nat_abs width)) true (late_at draft form width term ∷ []))

abbrev pub lay : Facts → Draft → Piece → Option Tree → Result Draft Refusal
lay known draft piece value = piece_form known draft piece value >>= with_form draft piece

-- the first of the values, where one is taken, and the others
abbrev pub first_value : Bool → List Tree → Option Tree
first_value true (value ∷ values) = Some value
first_value takes values = None

abbrev pub other_values : Bool → List Tree → List Tree
other_values true (value ∷ values) = values
other_values takes values = values

-- one with the next value where it takes one, and the others after it
abbrev pub then_laid : Bool → (Option Tree → Result Draft Refusal) → (Draft → List Tree → Result Draft Refusal) → List Tree → Result Draft Refusal
then_laid takes one others values = one (first_value takes values) >>= λ next. others next (other_values takes values)

-- one after the other, each with the next value where it takes one
abbrev pub in_order : {A : Type 0} → (A → Bool) → (Draft → A → Option Tree → Result Draft Refusal) → Draft → List A → List Tree → Result Draft Refusal
in_order takes lay draft [] values = Ok draft
in_order takes lay draft (x ∷ xs) values = then_laid (takes x) (lay draft x) (λ next values. in_order takes lay next xs values) values

abbrev pub takes_one : Piece → Bool
takes_one (OneNumber number) = is_none number.fixed
takes_one (OneText text) = is_none text.fixed
takes_one piece = false

abbrev pub pieces_laid : Facts → Draft → PlainField → Option Tree → Result Draft Refusal
pieces_laid known draft field value = in_order takes_one (lay known) draft (pieces_of field) (values_for field value)

-- the number of rows of an array, among the names outside
abbrev pub with_count : Option Word → ℕ → Environment → Environment
with_count name rows outer = record { give = λ key. if gives_count name key then Some (pos rows) else outer.give key }

abbrev pub with_field : PlainField → Option Tree → Environment → Environment
with_field (Array name count row) value outer = with_count name (length (rows_in value)) outer
with_field field value outer = outer

-- the numbers of rows of the arrays of a body, and else what names have outside
abbrev pub counted : PlainBody → List Tree → Environment → Environment
counted no_fields values outer = outer
counted (field_and field fields) values outer =
    counted fields (other_values (takes_value field) values) (with_field field (first_value (takes_value field) values) outer)

-- what names have at the front of a body: its arrays the numbers of their rows, its labels nothing, the array of which it is a
-- row the number of the row, and else what they have outside
abbrev pub entered : Option RowOf → PlainBody → List Tree → Environment → Environment
entered which body values outer = counted body values (names_inside which body outer)

-- the names of a body in the end, by those of the body around it: its own have what they had at its end
abbrev pub outside_of : Option RowOf → PlainBody → Environment → Environment → Environment
outside_of which body own outer = record { give = λ key. if is_row which key || declares body key then own.give key else outer.give key }

abbrev pub closing : Option RowOf → PlainBody → Environment → LateNumber → LateNumber
closing which body own one = record {
  piece = one.piece;
  at = one.at;
  form = one.form;
  width = one.width;
  term = one.term;
  names = λ outer. one.names (outside_of which body own outer);
}

-- a body within is laid with names of its own, which end with it; its late numbers keep them
abbrev pub enter : Option RowOf → PlainBody → List Tree → Draft → Draft
enter which body values draft = record {
  piece = draft.piece;
  bits = draft.bits;
  late = draft.late;
  known = entered which body values draft.known;
  numbers = [];
}

abbrev pub leave : Option RowOf → PlainBody → Draft → Draft → Draft
leave which body draft next = record {
  piece = next.piece;
  bits = next.bits;
  late = next.late;
  known = draft.known;
  numbers = draft.numbers ++ map (closing which body next.known) next.numbers;
}

-- What is laid after a body within, and what names have at its end.
pub record Ended : Type 0 where
  pub draft : Draft
  pub own : Environment

abbrev pub ended_laid : Option RowOf → PlainBody → (Draft → List Tree → Result Draft Refusal) → Draft → List Tree → Result Ended Refusal
ended_laid which body lay_fields draft values =
    lay_fields (enter which body values draft) values >>= λ next. Ok (record { draft = leave which body draft next; own = next.known })

abbrev pub inside_laid : Option RowOf → PlainBody → (Draft → List Tree → Result Draft Refusal) → Draft → List Tree → Result Draft Refusal
inside_laid which body lay_fields draft values = ended_laid which body lay_fields draft values >>= λ one. Ok one.draft

-- What is laid after the rows of an array, and what names have at the end of each of them.
pub record AllRows : Type 0 where
  pub draft : Draft
  pub ends : List Environment

-- a row in front of others
abbrev pub and_row : Ended → AllRows → AllRows
and_row one others = record { draft = others.draft; ends = one.own ∷ others.ends }

-- rows one after the other, of which the first has this number
abbrev pub rows_laid : (ℕ → Draft → List Tree → Result Ended Refusal) → ℕ → Draft → List (List Tree) → Result AllRows Refusal
rows_laid row number draft [] = Ok (record { draft = draft; ends = [] })
rows_laid row number draft (line ∷ lines) =
    row number draft line >>= λ one. rows_laid row (number + 1) one.draft lines >>= λ others. Ok (and_row one others)

-- after all rows of an array the labels in them have the places that they have in each
abbrev pub behind_rows : PlainBody → AllRows → Draft
behind_rows row rows = record {
  piece = rows.draft.piece;
  bits = rows.draft.bits;
  late = rows.draft.late;
  known = also_rows row rows.ends rows.draft.known;
  numbers = rows.draft.numbers;
}

abbrev pub array_laid : (ℕ → Draft → List Tree → Result Ended Refusal) → PlainBody → List (List Tree) → Draft → Result Draft Refusal
array_laid lay row lines draft = rows_laid lay 1 draft lines >>= λ rows. Ok (behind_rows row rows)

abbrev mutual
  pub field_laid : Facts → Draft → PlainField → Option Tree → Result Draft Refusal
  field_laid known draft (Number number) value = pieces_laid known draft (Number number) value
  field_laid known draft (Text text) value = pieces_laid known draft (Text text) value
  field_laid known draft (Points points) value = pieces_laid known draft (Points points) value
  field_laid known draft (Fill unit count) value = pieces_laid known draft (Fill unit count) value
  field_laid known draft (Align unit) value = pieces_laid known draft (Align unit) value
  field_laid known draft (Label name) value = pieces_laid known draft (Label name) value
  field_laid known draft (Array name count row) value =
      array_laid (λ number. ended_laid (row_of name number) row (λ inner line. body_laid known inner row line)) row (rows_in value) draft
  field_laid known draft (Switch cases) value = case_laid known draft cases value

  -- the fields of the case that is chosen
  pub case_laid : Facts → Draft → PlainCases → Option Tree → Result Draft Refusal
  case_laid known draft no_cases value = Ok draft
  case_laid known draft (case_and name row others) value =
      if is_case name value then inside_laid None row (λ inner line. body_laid known inner row line) draft (line_in value)
      else case_laid known draft others value

  -- the fields of a body, seen with its own names
  pub body_laid : Facts → Draft → PlainBody → List Tree → Result Draft Refusal
  body_laid known draft no_fields values = Ok draft
  body_laid known draft (field_and field fields) values =
      then_laid (takes_value field) (field_laid known draft field) (λ next values. body_laid known next fields values) values

-- a body inside what is laid so far
abbrev pub row_laid : Facts → Option RowOf → PlainBody → Draft → List Tree → Result Draft Refusal
row_laid known which row draft line = inside_laid which row (λ inner line. body_laid known inner row line) draft line

-- the same with what names have at its end
abbrev pub row_ended : Facts → Option RowOf → PlainBody → Draft → List Tree → Result Ended Refusal
row_ended known which row draft line = ended_laid which row (λ inner line. body_laid known inner row line) draft line

-- the rows of an array
abbrev pub each_laid : Facts → Option Word → PlainBody → List (List Tree) → Draft → Result AllRows Refusal
each_laid known name row lines draft = rows_laid (λ number. row_ended known (row_of name number) row) 1 draft lines

abbrev pub all_laid : Facts → Option Word → PlainBody → List (List Tree) → Draft → Result Draft Refusal
all_laid known name row lines draft = array_laid (λ number. row_ended known (row_of name number) row) row lines draft

-- The second pass.

-- bits with others from a place on
abbrev pub patched : ℕ → List Bool → List Bool → List Bool
patched at own bits = take at bits ++ (own ++ drop (at + length own) bits)

-- the bits of a late number among all bits so far, seen with the finished names
abbrev pub late_bits : Facts → Environment → LateNumber → List Bool → Result (List Bool) Refusal
late_bits known names one bits =
    valued one.piece (value_of one.term (sees known bits (one.names names) one.at)) >>= λ value. ranged one.piece one.form one.width value

-- the late numbers in their places, one after the other
abbrev pub fill : Facts → Environment → List LateNumber → List Bool → Result (List Bool) Refusal
fill known names [] bits = Ok bits
fill known names (one ∷ others) bits = late_bits known names one bits >>= λ own. fill known names others (patched one.at own bits)

-- the bytes: first all pieces in order, then the late numbers, and then zero bits to a whole byte
abbrev pub laid : Facts → PlainBody → List Tree → Result (List ℕ) Refusal
laid known body row =
    row_laid known None body nothing_laid row
    >>= λ draft. fill known outside draft.numbers draft.bits
    >>= λ bits. Ok (bytes_of (filled 8 bits))

-- a row of these fields is refused so
abbrev pub Refuses : Facts → PlainBody → List Tree → Refusal → Type 0
Refuses known body row fault = IsRow body row × (laid known body row ≡ Err fault)
