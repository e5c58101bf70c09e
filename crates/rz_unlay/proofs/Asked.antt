-- Names by their kinds: those that an expression asks for, and those of rows.
use Rattle.std.proofs.Common.{◌≡◌, Bool, true, false, ◌&&◌, ◌||◌, not, List, [], ◌∷◌, Option, refl, sym, ap, ◌∙◌}
use Rattle.std.specs.List.{flat_map, list_all}
use Rattle.rz_expr.specs.Environment.{count_of, place_in, place_of, row_in, rows_of, Key}
use Rattle.rz_expr.specs.Mention.{alone, around, counted, fact, indexed, mentions, with_bits, Mention}
use Rattle.rz_expr.specs.Term.{Term}
use Rattle.rz_types_fields.specs.Field.{field_and, no_fields, Align, Array, Fill, Label, Number, PlainBody, PlainField, Points, Switch, Text}
use Rattle.rz_types_fields.specs.Passed.{is_label, is_measured, is_near}
use Rattle.rz_types_fields.specs.RowLabels.{is_row, RowOf}
use Rattle.rz_types_fields.specs.Solve.{has_key, is_same_key, keys_in, tellable}
use Rattle.rz_types_fields.proofs.KeysIn.{key_passes}
use Rattle.rz_types_fields.proofs.RowKeys.{counted_none, labelled_none, placed_none}
use Rattle.rz_types_fields.proofs.SameNames.{key_is}
use Rattle.rz_unlay.proofs.ReadsTests.{not_true}

-- asked for by its name alone: a label, the number of an array's rows, or that of the rows that a label is in
abbrev pub is_asked : Key → Bool
is_asked (place_of name) = true
is_asked (count_of name) = true
is_asked (rows_of label) = true
is_asked (place_in label number) = false
is_asked (row_in array) = false

-- of rows: of a label in them, or of the row around
abbrev pub of_rows : Key → Bool
of_rows (place_of name) = false
of_rows (count_of name) = false
of_rows (rows_of label) = true
of_rows (place_in label number) = true
of_rows (row_in array) = true

-- the place of a label in its own body
abbrev pub is_place : Key → Bool
is_place (place_of name) = true
is_place (count_of name) = false
is_place (rows_of label) = false
is_place (place_in label number) = false
is_place (row_in array) = false

pub plain_asked : (key : Key) → of_rows key ≡ false → is_asked key ≡ true
plain_asked (place_of name) plain = refl
plain_asked (count_of name) plain = refl
plain_asked (rows_of label) plain = absurd cc
plain_asked (place_in label number) plain = absurd cc
plain_asked (row_in array) plain = absurd cc

pub rows_no_place : (key : Key) → of_rows key ≡ true → is_place key ≡ false
rows_no_place (place_of name) of = absurd cc
rows_no_place (count_of name) of = absurd cc
rows_no_place (rows_of label) of = refl
rows_no_place (place_in label number) of = refl
rows_no_place (row_in array) of = refl

-- a name of rows is no other name
pub apart_from_rows : (key other : Key) → of_rows key ≡ false → of_rows other ≡ true → is_same_key key other ≡ false
apart_from_rows key other plain of = by (is_same_key key other) refl
  where
    by : (test : Bool) → is_same_key key other ≡ test → test ≡ false
    by true same = absurd (let wrong : true ≡ false = sym of ∙ ap of_rows (sym (key_is key other same)) ∙ plain in cc)
    by false differ = refl

-- an expression has no name of rows in it but those that nothing tells
plain_keys : (all : List Mention) → list_all (λ key. not (of_rows key)) (flat_map tellable all) ≡ true
plain_keys [] = refl
plain_keys (alone name ∷ others) = plain_keys others
plain_keys (indexed name ∷ others) = plain_keys others
plain_keys (counted name ∷ others) = plain_keys others
plain_keys (around name ∷ others) = plain_keys others
plain_keys (with_bits name ∷ others) = plain_keys others
plain_keys (fact which ∷ others) = plain_keys others

pub plain_in : (key : Key) (term : Term) → has_key key term ≡ true → of_rows key ≡ false
plain_in key term has = not_true (of_rows key) (key_passes (λ key. not (of_rows key)) (keys_in term) key (plain_keys (mentions term)) has)

pub asked_in : (key : Key) (term : Term) → has_key key term ≡ true → is_asked key ≡ true
asked_in key term has = plain_asked key (plain_in key term has)

-- Labels alone are near.

pub not_label : (field : PlainField) (key : Key) → is_place key ≡ false → is_label field key ≡ false
not_label (Number number) key none = refl
not_label (Text text) key none = refl
not_label (Points points) key none = refl
not_label (Fill unit count) key none = refl
not_label (Align unit) key none = refl
not_label (Label own) (place_of name) none = absurd cc
not_label (Label own) (count_of name) none = refl
not_label (Label own) (rows_of label) none = refl
not_label (Label own) (place_in label number) none = refl
not_label (Label own) (row_in array) none = refl
not_label (Array own count row) key none = refl
not_label (Switch cases) key none = refl

pub not_near : (body : PlainBody) (key : Key) → is_place key ≡ false → is_near body key ≡ false
not_near no_fields key none = refl
not_near (field_and field fields) key none = (λ i. not_label field key none i || (is_measured field && not_near fields key none i)) ∙ no_more (is_measured field)
  where
    no_more : (test : Bool) → (false || (test && false)) ≡ false
    no_more true = refl
    no_more false = refl

-- what is asked for by its name alone is no number of a row
pub asked_no_row : (which : Option RowOf) (key : Key) → is_asked key ≡ true → is_row which key ≡ false
asked_no_row which (place_of name) asked = placed_none which name
asked_no_row which (count_of name) asked = counted_none which name
asked_no_row which (rows_of label) asked = labelled_none which label
asked_no_row which (place_in label number) asked = absurd cc
asked_no_row which (row_in array) asked = absurd cc
