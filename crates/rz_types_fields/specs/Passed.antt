-- The names that fields give values, and what the fields before one tell of them. (MPW Rez.)
use Rattle.std.specs.Prelude.{ℕ, ℤ, Bool, true, false, ◌&&◌, ◌||◌, not, if◌then◌else◌, List, [], ◌∷◌, Option, Some, None}
use Rattle.std.specs.Option.{is_some}
use Rattle.rz_core.specs.declared.resource.Word.{Word}
use Rattle.rz_expr.specs.Environment.{count_key, place_in, place_key, place_of, rows_of, Environment, Key}
use Rattle.rz_expr.specs.Term.{Term}
use Rattle.rz_types_fields.specs.Field.{field_and, no_fields, Align, Array, Label, PlainBody, PlainField}
use Rattle.rz_types_fields.specs.Piece.{pieces_of, OneNumber, Piece}
use Rattle.rz_types_fields.specs.Solve.{has_key, is_same_key}
use Rattle.rz_types_fields.specs.Value.{symbol_key}
use Rattle.rz_types_fields.specs.Width.{fixed_width}

abbrev pub Names : Type 0
Names = Key → Bool

-- what has a value outside of all fields: `true` and `false`
abbrev pub outside : Environment
outside = record { give = symbol_key [] }

-- the key is the number of rows of an array of this name
abbrev pub counts_rows : List ℕ → Key → Bool
counts_rows name key = is_same_key (count_key name) key

-- the name of an array gives this key a value
abbrev pub gives_count : Option Word → Key → Bool
gives_count None key = false
gives_count (Some name) key = counts_rows name.bytes key

-- the key is a label of this name
abbrev pub stands_at : List ℕ → Key → Bool
stands_at name key = is_same_key (place_key name) key

-- the field is a label of this name
abbrev pub is_label : PlainField → Key → Bool
is_label (Label name) key = stands_at name.bytes key
is_label field key = false

-- a label of this name, in lower case, stands directly in a body: not in its cases, and not in the rows of its arrays
abbrev pub has_label : PlainBody → List ℕ → Bool
has_label no_fields label = false
has_label (field_and field fields) label = is_label field (place_of label) || has_label fields label

-- the key is that of a label directly in these rows: by their number, or by its place in one of them
abbrev pub gives_rows : PlainBody → Key → Bool
gives_rows row (rows_of label) = has_label row label
gives_rows row (place_in label number) = has_label row label
gives_rows row key = false

-- the field gives this key a value: an array by the number of its rows and by the places of the labels in them, a label by its
-- place
abbrev pub gives_key : PlainField → Key → Bool
gives_key (Array name count row) key = gives_count name key || gives_rows row key
gives_key (Label name) key = stands_at name.bytes key
gives_key field key = false

-- one of the fields of a body does
abbrev pub declares : PlainBody → Key → Bool
declares no_fields key = false
declares (field_and field fields) key = gives_key field key || declares fields key

-- What the fields before one tell of names: which stand before it, labels, arrays by the numbers of their rows, and the labels
-- in these by all their rows, and which are told, by a stated count or by a number before it. At a field those are near, too,
-- that stand after it at a known distance.
pub record Passed : Type 0 where
  pub met : Names
  pub told : Names
  pub near : Names

-- known after this field too, and in the bodies within
abbrev pub is_held : Passed → Names
is_held passed key = passed.met key || passed.told key

-- known at this field
abbrev pub is_known : Passed → Names
is_known passed key = passed.near key || is_held passed key

-- outside of all fields `true` and `false` are known
abbrev pub nothing_passed : Passed
nothing_passed = record { met = λ key. is_some (outside.give key); told = λ key. false; near = λ key. false }

-- between two fields nothing is near
abbrev pub between : Passed → Passed
between passed = record { met = passed.met; told = passed.told; near = λ key. false }

-- an array with a stated count tells its key
abbrev pub states_count : Option Word → Option ℤ → Names
states_count name None key = false
states_count name (Some count) key = gives_count name key

abbrev pub states_key : PlainField → Names
states_key (Array name count row) key = states_count name count key
states_key field key = false

abbrev pub states : PlainBody → Names
states no_fields key = false
states (field_and field fields) key = states_key field key || states fields key

-- what stands before the front of a body: what was met outside of it but for its own names
abbrev pub met_inside : PlainBody → Names → Names
met_inside body met key = not (declares body key) && met key

-- after a field what it gives a value is met
abbrev pub met_behind : PlainField → Names → Names
met_behind field met key = gives_key field key || met key

-- at the front of a body: what was known outside of it but for its own names, and of these the stated counts
abbrev pub at_front : PlainBody → Passed → Passed
at_front body passed = record {
  met = met_inside body passed.met;
  told = λ key. if declares body key then states body key else passed.told key;
  near = λ key. false;
}

-- what stands after the field is at a known distance
abbrev pub is_measured : PlainField → Bool
is_measured (Align unit) = true
is_measured field = is_some (fixed_width field)

-- a label of this name stands in these fields at a known distance
abbrev pub is_near : PlainBody → Names
is_near no_fields key = false
is_near (field_and field fields) key = is_label field key || (is_measured field && is_near fields key)

-- at the first of these fields
abbrev pub at_field : PlainBody → Passed → Passed
at_field body passed = record { met = passed.met; told = passed.told; near = is_near body }

-- after a number those of its expression's names are told that weren't known before it
abbrev pub told_by : Option Term → Passed → Passed
told_by None passed = passed
told_by (Some term) passed = record {
  met = passed.met;
  told = λ key. (has_key key term && not (is_known passed key)) || passed.told key;
  near = passed.near;
}

abbrev pub behind_piece : Piece → Passed → Passed
behind_piece (OneNumber number) passed = told_by number.fixed passed
behind_piece piece passed = passed

abbrev pub behind_pieces : List Piece → Passed → Passed
behind_pieces [] passed = passed
behind_pieces (piece ∷ pieces) passed = behind_pieces pieces (behind_piece piece passed)

-- after a field: an array or a label is met, and what its numbers tell is told
abbrev pub behind : PlainField → Passed → Passed
behind field passed =
    between (behind_pieces (pieces_of field) (record { met = met_behind field passed.met; told = passed.told; near = passed.near }))
