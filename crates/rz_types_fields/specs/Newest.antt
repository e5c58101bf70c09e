-- Which note is the newest that speaks of a key, and where the code finds the notes that may.
use Rattle.std.specs.Prelude.{◌≡◌, ℕ, ◌+◌, ◌*◌, ◌%◌, ◌^◌, ◌==◌, nat_eq, Bool, true, false, ◌&&◌, if◌then◌else◌, List, [], ◌∷◌, Option, Some, Vec}
use Rattle.std.specs.HashMap.{get, HashMap}
use Rattle.std.specs.Option.{option_map_or}
use Rattle.rz_expr.specs.Environment.{count_key, count_of, place_in, place_key, place_of, row_in, row_key, rows_of, Key}
use Rattle.rz_expr.specs.NameKey.{key_of}
use Rattle.rz_types_fields.specs.Known.{speaks}
use Rattle.rz_types_fields.specs.Positions.{positions}
use Rattle.rz_types_fields.specs.declared.names.Note.{Note}
use Rattle.rz_types_fields.specs.declared.names.Note.TheVariants.{Coming, Counted, Hidden, Numbered, Placed, PlaceTold, Rows, Told}

-- The newest.

-- a note that speaks of a key is heard; one by which nothing is met only where told values count
abbrev pub heard : Bool → Note → Key → Bool
heard told (Told name rows) key = told && speaks (Told name rows) key
heard told (PlaceTold name at) key = told && speaks (PlaceTold name at) key
heard told (Numbered name number) key = told && speaks (Numbered name number) key
heard told note key = speaks note key

-- a key is met by such a note: an array has rows, or a label stands; a name of a body that was entered isn't met
abbrev pub meets : Note → Bool
meets (Counted name rows) = true
meets (Placed name at) = true
meets (Rows row count places) = true
meets note = false

-- the newest that is heard, or else this one
abbrev pub newest : Bool → Key → Option Note → List Note → Option Note
newest told key found [] = found
newest told key found (note ∷ notes) = newest told key (if heard told note key then Some note else found) notes

-- Codes.

-- a number for a name in lower case, by those of its kind
abbrev pub code_from : ℕ → List ℕ → ℕ
code_from code [] = code
code_from code (byte ∷ bytes) = code_from ((code * 1099511628211 % 2 ^ 64 + byte) % 2 ^ 64) bytes

-- the code of a key; all labels in rows have one
abbrev pub code_of : Key → ℕ
code_of (place_of name) = code_from 1 name
code_of (count_of name) = code_from 2 name
code_of (row_in array) = code_from 3 array
code_of (rows_of label) = 0
code_of (place_in label number) = 0

-- that of the keys of which a note speaks
abbrev pub note_code : Note → ℕ
note_code (Told name rows) = code_of (count_key name.now.bytes)
note_code (Counted name rows) = code_of (count_key name.now.bytes)
note_code (PlaceTold name at) = code_of (place_key name.now.bytes)
note_code (Placed name at) = code_of (place_key name.now.bytes)
note_code (Numbered name number) = code_of (row_key name.now.bytes)
note_code (Hidden own) = code_of (key_of own)
note_code (Rows row count places) = 0
note_code (Coming row) = 0

abbrev pub has_code : ℕ → Note → Bool
has_code code note = note_code note == code

-- Positions.

-- the positions that are held for a code
abbrev pub held : {A S : Type 0} → ℕ → HashMap ℕ (Vec ℕ A) S → List ℕ
held code places = option_map_or (λ own. own.items) (get nat_eq places code) []

-- for each code they are those of the notes with it
abbrev pub AreHeld : {A S : Type 0} → List Note → HashMap ℕ (Vec ℕ A) S → Type 0
AreHeld notes places = (code : ℕ) → held code places ≡ positions (has_code code) notes
