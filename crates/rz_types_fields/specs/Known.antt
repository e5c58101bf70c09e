-- What the code notes of names, as contracts see it: the numbers of rows, the places and the numbers of rows around that the
-- notes give them, and which names are met after them.
use Rattle.std.specs.Prelude.{◌≡◌, ℕ, ℤ, pos, Bool, ◌&&◌, ◌||◌, not, if◌then◌else◌, List, [], ◌∷◌, ◌++◌, length, Option, Some, None, option_map}
use Rattle.std.specs.Option.{is_some}
use Rattle.rz_core.specs.Lists.{or_else}
use Rattle.rz_expr.specs.Environment.{count_key, row_key, Environment, Key}
use Rattle.rz_expr.specs.NameKey.{key_of}
use Rattle.rz_types_fields.specs.Field.{plain_body, PlainBody}
use Rattle.rz_types_fields.specs.Front.{value_inside}
use Rattle.rz_types_fields.specs.Solve.{is_same_key}
use Rattle.rz_types_fields.specs.Passed.{counts_rows, declares, gives_rows, outside, stands_at, Names}
use Rattle.rz_types_fields.specs.FlatRows.{row_value, AllPlacesAre}
use Rattle.rz_types_fields.specs.RowLabels.{rows_give, RowOf}
use Rattle.rz_types_fields.specs.declared.names.InRow.{InRow}
use Rattle.rz_types_fields.specs.declared.names.Note.{Note}
use Rattle.rz_types_fields.specs.declared.names.Note.TheVariants.{Coming, Counted, Hidden, Numbered, Placed, PlaceTold, Rows, Told}

-- which row of an array a body is, as the code has it
abbrev pub which_of : Option InRow → Option RowOf
which_of which = option_map (λ row. record { name = row.array.now; number = row.number }) which

-- a note speaks of a key: of an array by the number of its rows, or of the row around; of a label by its place, or of those in
-- the rows of an array
abbrev pub speaks : Note → Key → Bool
speaks (Told name rows) key = is_same_key (count_key name.now.bytes) key
speaks (Counted name rows) key = counts_rows name.now.bytes key
speaks (PlaceTold name at) key = stands_at name.now.bytes key
speaks (Placed name at) key = stands_at name.now.bytes key
speaks (Numbered name number) key = is_same_key (row_key name.now.bytes) key
speaks (Hidden own) key = is_same_key (key_of own) key
speaks (Rows row count places) key = gives_rows (plain_body row.now) key
speaks (Coming row) key = gives_rows (plain_body row.now) key

-- the value that a note says of a key; a note that a body was entered says none for the names of that body
abbrev pub said : Note → Key → Option ℤ
said (Told name rows) key = Some rows
said (Counted name rows) key = Some rows
said (PlaceTold name at) key = Some at
said (Placed name at) key = Some at
said (Numbered name number) key = Some (pos number)
said (Hidden own) key = None
said (Rows row count places) key = row_value (plain_body row.now) count places.items key
said (Coming row) key = None

-- the value of a key after one note more, where it has another before it
abbrev pub noting : Note → Key → Option ℤ → Option ℤ
noting note key other = if speaks note key then said note key else other

-- after all notes, the oldest first
abbrev pub noted : Option ℤ → List Note → Key → Option ℤ
noted other [] key = other
noted other (note ∷ notes) key = noted (noting note key other) notes key

abbrev pub known : List Note → Environment
known notes = record { give = λ key. noted (outside.give key) notes key }

-- whether a key is met after one note more, where it was or wasn't before it: what a number told isn't met by that, and neither is
-- the row around
abbrev pub meeting : Note → Key → Bool → Bool
meeting (Told name rows) key before = before
meeting (Counted name rows) key before = counts_rows name.now.bytes key || before
meeting (PlaceTold name at) key before = before
meeting (Placed name at) key before = stands_at name.now.bytes key || before
meeting (Numbered name number) key before = before
meeting (Hidden own) key before = not (is_same_key (key_of own) key) && before
meeting (Rows row count places) key before = gives_rows (plain_body row.now) key || before
meeting (Coming row) key before = not (gives_rows (plain_body row.now) key) && before

abbrev pub met_noted : Bool → List Note → Key → Bool
met_noted before [] key = before
met_noted before (note ∷ notes) key = met_noted (meeting note key before) notes key

-- what is met after all notes
abbrev pub met : List Note → Names
met notes key = met_noted (is_some (outside.give key)) notes key

-- notes were added at the end by which the labels directly in so many rows are met, and by which, where these are their places,
-- row by row, they have them
pub record AreRowsNoted (row : PlainBody) (count : ℕ) (places : List ℤ) (old new : List Note) : Type 0 where
  pub more : List Note
  pub grew : new ≡ old ++ more
  pub values : (ends : List Environment) → length ends ≡ count → AllPlacesAre row ends places → (key : Key) (before : Option ℤ)
      → noted before more key ≡ (if gives_rows row key then rows_give ends key else before)
  pub all_met : (key : Key) (before : Bool) → met_noted before more key ≡ (gives_rows row key || before)

-- notes were added at the end after which keys have these values, and these are met
pub record Adds (values : Key → Option ℤ → Option ℤ) (mets : Key → Bool → Bool) (old new : List Note) : Type 0 where
  pub more : List Note
  pub grew : new ≡ old ++ more
  pub values_are : (key : Key) (before : Option ℤ) → noted before more key ≡ values key before
  pub mets_are : (key : Key) (before : Bool) → met_noted before more key ≡ mets key before

-- by these keys have no value, and aren't met
abbrev pub Hides : (Key → Bool) → List Note → List Note → Type 0
Hides gives old new = Adds (λ key before. if gives key then None else before) (λ key before. not (gives key) && before) old new

-- by these keys have values that are told
abbrev pub Tells : (Key → Option ℤ) → List Note → List Note → Type 0
Tells stated old new = Adds (λ key before. or_else (stated key) before) (λ key before. before) old new

-- by those of the front of a body its own names hide those outside
abbrev pub IsFront : Option RowOf → PlainBody → List Note → List Note → Type 0
IsFront which body old new = Adds (value_inside which body) (λ key before. not (declares body key) && before) old new

-- some were only added at the end
abbrev pub Grew : {A : Type 0} → List A → List A → Type 0
Grew old new = (more : List _) × (new ≡ old ++ more)
