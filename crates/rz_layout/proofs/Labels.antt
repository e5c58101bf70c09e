-- The names of a body: which stand later, and what they have inside and outside.
use Rattle.std.proofs.Common.{◌≡◌, ℕ, ℤ, pos, Bool, true, false, ◌&&◌, ◌||◌, not, List, [], ◌∷◌, length, Option, Some, None, refl, sym, ap, ◌∙◌}
use Rattle.std.specs.Prelude.{if◌then◌else◌}
use Rattle.std.specs.List.{list_any}
use Rattle.std.specs.Option.{is_some}
use Rattle.rz_core.proofs.Tests.{by_test, or_false, true_false}
use Rattle.rz_core.specs.declared.resource.Word.{Word}
use Rattle.rz_core.specs.Lists.{or_else}
use Rattle.rz_expr.specs.Environment.{count_of, place_in, place_key, place_of, row_in, rows_key, rows_of, Environment, Key}
use Rattle.rz_expr.specs.Mention.{mentions, Mention}
use Rattle.rz_expr.specs.Mention as terms
use Rattle.rz_expr.specs.Term.{Term}
use Rattle.rz_types_fields.proofs.RowKeys.{placed_as_counted, undeclared as around_undeclared}
use Rattle.rz_types_fields.specs.declared.tree.Tree.{Tree}
use Rattle.rz_types_fields.specs.Field.{field_and, no_fields, takes_value, Align, Array, Fill, Label, Number, PlainBody, PlainField, Points, Switch, Text}
use Rattle.rz_types_fields.specs.Front.{names_inside, stated_in, stated_value}
use Rattle.rz_types_fields.specs.Laid.{counted, entered, first_value, met_in, other_values, placed, rows_in, with_field}
use Rattle.rz_types_fields.specs.Passed.{behind, behind_piece, behind_pieces, declares, gives_count, gives_key, gives_rows, has_label, is_label, stands_at, told_by, Names, Passed}
use Rattle.rz_types_fields.specs.Piece.{pieces_of, Filler, OneNumber, OneText, Piece, Place, Zeros}
use Rattle.rz_types_fields.specs.RowLabels.{also_rows, is_row, numbers_row, row_number, RowOf}
use Rattle.rz_types_fields.specs.Sees as later
use Rattle.rz_types_fields.specs.Sees.{names_later}
use Rattle.rz_layout.proofs.Later.{is_later}

-- Labels.

-- the key of a label by itself, or in rows
abbrev pub label_key : (in_rows : Bool) → List ℕ → Key
label_key false name = place_of name
label_key true name = rows_of name

-- a field gives the key a place: a label its own, an array those of the labels in its rows
abbrev pub gives_place : PlainField → Key → Bool
gives_place (Label name) key = stands_at name.bytes key
gives_place (Array name count row) key = gives_rows row key
gives_place field key = false

abbrev pub gives_places : PlainBody → Key → Bool
gives_places no_fields key = false
gives_places (field_and field fields) key = gives_place field key || gives_places fields key

-- the key of a label is given by its place
pub place_label : (field : PlainField) (in_rows : Bool) (name : List ℕ) → gives_key field (label_key in_rows name) ≡ gives_place field (label_key in_rows name)
place_label (Number number) in_rows name = refl
place_label (Text text) in_rows name = refl
place_label (Points points) in_rows name = refl
place_label (Fill unit count) in_rows name = refl
place_label (Align unit) in_rows name = refl
place_label (Label own) in_rows name = refl
place_label (Array None count row) in_rows name = refl
place_label (Array (Some own) count row) false name = refl
place_label (Array (Some own) count row) true name = refl
place_label (Switch cases) in_rows name = refl

pub places_labels : (body : PlainBody) (in_rows : Bool) (name : List ℕ) → declares body (label_key in_rows name) ≡ gives_places body (label_key in_rows name)
places_labels no_fields in_rows name = refl
places_labels (field_and field fields) in_rows name = λ i. place_label field in_rows name i || places_labels fields in_rows name i

-- the places of a label in rows are given where their number is
place_in_row : (field : PlainField) (label : List ℕ) (number : ℤ) → gives_place field (place_in label number) ≡ gives_place field (rows_of label)
place_in_row (Number own) label number = refl
place_in_row (Text text) label number = refl
place_in_row (Points points) label number = refl
place_in_row (Fill unit count) label number = refl
place_in_row (Align unit) label number = refl
place_in_row (Label own) label number = refl
place_in_row (Array name count row) label number = refl
place_in_row (Switch cases) label number = refl

places_in_row : (body : PlainBody) (label : List ℕ) (number : ℤ) → gives_places body (place_in label number) ≡ gives_places body (rows_of label)
places_in_row no_fields label number = refl
places_in_row (field_and field fields) label number = λ i. place_in_row field label number i || places_in_row fields label number i

-- what isn't declared has no place
field_undeclared : (field : PlainField) (key : Key) → gives_key field key ≡ false → gives_place field key ≡ false
field_undeclared (Number number) key none = refl
field_undeclared (Text text) key none = refl
field_undeclared (Points points) key none = refl
field_undeclared (Fill unit count) key none = refl
field_undeclared (Align unit) key none = refl
field_undeclared (Label own) key none = none
field_undeclared (Array name count row) key none = (or_false (gives_count name key) (gives_rows row key) none).1
field_undeclared (Switch cases) key none = refl

pub undeclared : (body : PlainBody) (key : Key) → declares body key ≡ false → gives_places body key ≡ false
undeclared no_fields key none = refl
undeclared (field_and field fields) key none =
    let each = or_false (gives_key field key) (declares fields key) none in
    (λ i. field_undeclared field key each.0 i || gives_places fields key) ∙ undeclared fields key each.1

pub placed_declared : (body : PlainBody) (key : Key) → gives_places body key ≡ true → declares body key ≡ true
placed_declared body key is = by_test (declares body key ≡ true) (declares body key) (λ so. so) (λ none. absurd (true_false (sym is ∙ undeclared body key none)))

-- numbers of rows are no places
field_count : (field : PlainField) (name : List ℕ) → gives_place field (count_of name) ≡ false
field_count (Number number) name = refl
field_count (Text text) name = refl
field_count (Points points) name = refl
field_count (Fill unit count) name = refl
field_count (Align unit) name = refl
field_count (Label own) name = refl
field_count (Array own count row) name = refl
field_count (Switch cases) name = refl

pub counts_no_place : (body : PlainBody) (name : List ℕ) → gives_places body (count_of name) ≡ false
counts_no_place no_fields name = refl
counts_no_place (field_and field fields) name = (λ i. field_count field name i || gives_places fields (count_of name)) ∙ counts_no_place fields name

pub or_true : (a b : Bool) → b ≡ true → (a || b) ≡ true
or_true true b is = refl
or_true false b is = is

pub or_first : (a b : Bool) → a ≡ true → (a || b) ≡ true
or_first a b is = ap (λ (test : Bool). test || b) is

-- a label directly in a body has a place there
field_label : (field : PlainField) (name : List ℕ) → gives_place field (place_of name) ≡ is_label field (place_of name)
field_label (Number number) name = refl
field_label (Text text) name = refl
field_label (Points points) name = refl
field_label (Fill unit count) name = refl
field_label (Align unit) name = refl
field_label (Label own) name = refl
field_label (Array own count row) name = refl
field_label (Switch cases) name = refl

labels_given : (body : PlainBody) (name : List ℕ) → gives_places body (place_of name) ≡ has_label body name
labels_given no_fields name = refl
labels_given (field_and field fields) name = λ i. field_label field name i || labels_given fields name i

pub label_declared : (body : PlainBody) (name : List ℕ) → has_label body name ≡ true → declares body (place_of name) ≡ true
label_declared body name is = places_labels body false name ∙ labels_given body name ∙ is

-- What was met.

abbrev pub met_behind : PlainField → Names → Names
met_behind field met key = gives_key field key || met key

abbrev pub met_all : PlainBody → Names → Names
met_all no_fields met = met
met_all (field_and field fields) met = met_all fields (met_behind field met)

-- at the front of a body
abbrev pub met_front : PlainBody → Names → Names
met_front body met key = not (declares body key) && met key

number_met : (fixed : Option Term) (passed : Passed) → (told_by fixed passed).met ≡ passed.met
number_met None passed = refl
number_met (Some term) passed = refl

pub piece_met : (piece : Piece) (passed : Passed) → (behind_piece piece passed).met ≡ passed.met
piece_met (OneNumber number) passed = number_met number.fixed passed
piece_met (OneText text) passed = refl
piece_met (Zeros count) passed = refl
piece_met (Filler unit) passed = refl
piece_met (Place name) passed = refl

pieces_met : (pieces : List Piece) (passed : Passed) → (behind_pieces pieces passed).met ≡ passed.met
pieces_met [] passed = refl
pieces_met (piece ∷ pieces) passed = pieces_met pieces (behind_piece piece passed) ∙ piece_met piece passed

pub behind_met : (field : PlainField) (passed : Passed) → (behind field passed).met ≡ met_behind field passed.met
behind_met field passed = pieces_met (pieces_of field) (record { met = λ key. gives_key field key || passed.met key; told = passed.told; near = passed.near })

still_met : (body : PlainBody) (met : Names) (key : Key) → met key ≡ true → met_all body met key ≡ true
still_met no_fields met key is = is
still_met (field_and field fields) met key is = still_met fields (met_behind field met) key (or_true (gives_key field key) (met key) is)

pub all_met : (body : PlainBody) (met : Names) (key : Key) → declares body key ≡ true → met_all body met key ≡ true
all_met no_fields met key is = absurd (true_false (sym is))
all_met (field_and field fields) met key is = by (gives_key field key) refl is (λ so. all_met fields (met_behind field met) key so)
  where
    by : (test : Bool) → gives_key field key ≡ test → (test || declares fields key) ≡ true → (declares fields key ≡ true → met_all fields (met_behind field met) key ≡ true)
        → met_all fields (met_behind field met) key ≡ true
    by true own so rest = still_met fields (met_behind field met) key (or_first (gives_key field key) (met key) own)
    by false own so rest = rest so

-- at the end of a body none of its names stands later
pub none_later : (body : PlainBody) (met : Names) (key : Key) → declares body key ≡ true → is_later (met_all body met) key ≡ false
none_later body met (place_of name) is = ap not (all_met body met (place_of name) is)
none_later body met (count_of name) is = refl
none_later body met (rows_of name) is = ap not (all_met body met (rows_of name) is)
none_later body met (place_in name number) is = ap not (all_met body met (rows_of name) (sym (placed_as_counted body name number) ∙ is))
none_later body met (row_in name) is = refl

pub later_behind : (field : PlainField) (met : Names) (key : Key) → gives_place field key ≡ false → is_later (met_behind field met) key ≡ is_later met key
later_behind field met (place_of name) none = ap (λ (test : Bool). not (test || met (place_of name))) (place_label field false name ∙ none)
later_behind field met (count_of name) none = refl
later_behind field met (rows_of name) none = ap (λ (test : Bool). not (test || met (rows_of name))) (place_label field true name ∙ none)
later_behind field met (place_in name number) none = ap (λ (test : Bool). not (test || met (rows_of name))) (place_label field true name ∙ sym (place_in_row field name number) ∙ none)
later_behind field met (row_in name) none = refl

pub later_all : (body : PlainBody) (met : Names) (key : Key) → gives_places body key ≡ false → is_later (met_all body met) key ≡ is_later met key
later_all no_fields met key none = refl
later_all (field_and field fields) met key none =
    let each = or_false (gives_place field key) (gives_places fields key) none in later_all fields (met_behind field met) key each.1 ∙ later_behind field met key each.0

-- inside a body its own labels weren't met
pub inside_later : (body : PlainBody) (met : Names) (key : Key) → declares body key ≡ false → is_later (met_front body met) key ≡ is_later met key
inside_later body met (place_of name) none = ap (λ (test : Bool). not (not test && met (place_of name))) none
inside_later body met (count_of name) none = refl
inside_later body met (rows_of name) none = ap (λ (test : Bool). not (not test && met (rows_of name))) none
inside_later body met (place_in name number) none = ap (λ (test : Bool). not (not test && met (rows_of name))) (sym (placed_as_counted body name number) ∙ none)
inside_later body met (row_in name) none = refl

pub own_later : (body : PlainBody) (met : Names) (in_rows : Bool) (name : List ℕ) → declares body (label_key in_rows name) ≡ true → is_later (met_front body met) (label_key in_rows name) ≡ true
own_later body met false name is = ap (λ (test : Bool). not (not test && met (place_of name))) is
own_later body met true name is = ap (λ (test : Bool). not (not test && met (rows_of name))) is

-- a label that wasn't met stands later
pub unmet_later : (body : PlainBody) (met : Names) → ((key : Key) → gives_places body key ≡ true → met key ≡ false) → (key : Key) → gives_places body key ≡ true → is_later met key ≡ true
unmet_later body met fresh (place_of name) is = ap not (fresh (place_of name) is)
unmet_later body met fresh (count_of name) is = absurd (true_false (sym is ∙ counts_no_place body name))
unmet_later body met fresh (rows_of name) is = ap not (fresh (rows_of name) is)
unmet_later body met fresh (place_in name number) is = ap not (fresh (rows_of name) (sym (places_in_row body name number) ∙ is))
unmet_later body met fresh (row_in name) is = absurd (true_false (sym (placed_declared body (row_in name) is) ∙ around_undeclared body name))

-- What was met is known.

abbrev pub MetKnown : Names → Environment → Type 0
MetKnown met known = (in_rows : Bool) (name : List ℕ) → met (label_key in_rows name) ≡ is_some (known.give (label_key in_rows name))

later_known : (met : Names) (known : Environment) → MetKnown met known → (key : Key) → is_later (met_in known) key ≡ is_later met key
later_known met known is (place_of name) = ap not (sym (is false name))
later_known met known is (count_of name) = refl
later_known met known is (rows_of name) = ap not (sym (is true name))
later_known met known is (place_in name number) = ap not (sym (is true name))
later_known met known is (row_in name) = refl

one_known : (met : Names) (known : Environment) → MetKnown met known → (one : Mention) → later.is_later (met_in known) one ≡ later.is_later met one
one_known met known is (terms.alone name) = later_known met known is (place_key name)
one_known met known is (terms.indexed name) = later_known met known is (rows_key name)
one_known met known is (terms.counted name) = refl
one_known met known is (terms.around name) = refl
one_known met known is (terms.with_bits name) = later_known met known is (place_key name)
one_known met known is (terms.fact which) = refl

pub names_known : (met : Names) (known : Environment) → MetKnown met known → (term : Term) → names_later (met_in known) term ≡ names_later met term
names_known met known is term = λ i. list_any (λ one. one_known met known is one i) (mentions term)

-- after what gives labels values
pub met_more : (labels : Key → Bool) (met : Names) (known after : Environment) → MetKnown met known → ((key : Key) → labels key ≡ false → after.give key ≡ known.give key)
    → ((in_rows : Bool) (name : List ℕ) → labels (label_key in_rows name) ≡ true → is_some (after.give (label_key in_rows name)) ≡ true) → MetKnown (λ key. labels key || met key) after
met_more labels met known after is same given in_rows name = by (labels (label_key in_rows name)) refl
  where
    by : (test : Bool) → labels (label_key in_rows name) ≡ test → (labels (label_key in_rows name) || met (label_key in_rows name)) ≡ is_some (after.give (label_key in_rows name))
    by true own = ap (λ (c : Bool). c || met (label_key in_rows name)) own ∙ sym (given in_rows name own)
    by false own = ap (λ (c : Bool). c || met (label_key in_rows name)) own ∙ is in_rows name ∙ ap is_some (sym (same (label_key in_rows name) own))

pub met_field : (field : PlainField) (met : Names) (known : Environment) → MetKnown (λ key. gives_place field key || met key) known → MetKnown (met_behind field met) known
met_field field met known is in_rows name = ap (λ (test : Bool). test || met (label_key in_rows name)) (place_label field in_rows name) ∙ is in_rows name

-- after all rows of an array
pub met_rows : (row : PlainBody) (ends : List Environment) (met : Names) (known : Environment) → MetKnown met known → MetKnown (λ key. gives_rows row key || met key) (also_rows row ends known)
met_rows row ends met known is false name = is false name
met_rows row ends met known is true name = by (has_label row name) refl
  where
    by : (test : Bool) → has_label row name ≡ test → (has_label row name || met (rows_of name)) ≡ is_some (if has_label row name then Some (pos (length ends)) else known.give (rows_of name))
    by true own = ap (λ (c : Bool). c || met (rows_of name)) own ∙ sym (ap (λ (c : Bool). is_some (if c then Some (pos (length ends)) else known.give (rows_of name))) own)
    by false own = ap (λ (c : Bool). c || met (rows_of name)) own ∙ is true name ∙ sym (ap (λ (c : Bool). is_some (if c then Some (pos (length ends)) else known.give (rows_of name))) own)

-- Entering a body.

field_none : (field : PlainField) (value : Option Tree) (outer : Environment) (key : Key) → gives_key field key ≡ false → (with_field field value outer).give key ≡ outer.give key
field_none (Number number) value outer key none = refl
field_none (Text text) value outer key none = refl
field_none (Points points) value outer key none = refl
field_none (Fill unit count) value outer key none = refl
field_none (Align unit) value outer key none = refl
field_none (Label name) value outer key none = refl
field_none (Array name count row) value outer key none =
    ap (λ (test : Bool). if test then Some (pos (length (rows_in value))) else outer.give key) (or_false (gives_count name key) (gives_rows row key) none).0
field_none (Switch cases) value outer key none = refl

pub counted_none : (body : PlainBody) (values : List Tree) (outer : Environment) (key : Key) → declares body key ≡ false → (counted body values outer).give key ≡ outer.give key
counted_none no_fields values outer key none = refl
counted_none (field_and field fields) values outer key none =
    let each = or_false (gives_key field key) (declares fields key) none in
    counted_none fields (other_values (takes_value field) values) (with_field field (first_value (takes_value field) values) outer) key each.1
    ∙ field_none field (first_value (takes_value field) values) outer key each.0

-- the number of the rows of an array
abbrev pub is_count : Key → Bool
is_count (place_of name) = false
is_count (count_of name) = true
is_count (rows_of name) = false
is_count (place_in name number) = false
is_count (row_in name) = false

no_count : (name : Option Word) (key : Key) → is_count key ≡ false → gives_count name key ≡ false
no_count None key other = refl
no_count (Some own) (place_of name) other = refl
no_count (Some own) (count_of name) other = absurd (true_false other)
no_count (Some own) (rows_of name) other = refl
no_count (Some own) (place_in name number) other = refl
no_count (Some own) (row_in name) other = refl

field_other : (field : PlainField) (value : Option Tree) (outer : Environment) (key : Key) → is_count key ≡ false → (with_field field value outer).give key ≡ outer.give key
field_other (Number number) value outer key other = refl
field_other (Text text) value outer key other = refl
field_other (Points points) value outer key other = refl
field_other (Fill unit count) value outer key other = refl
field_other (Align unit) value outer key other = refl
field_other (Label name) value outer key other = refl
field_other (Array name count row) value outer key other = ap (λ (test : Bool). if test then Some (pos (length (rows_in value))) else outer.give key) (no_count name key other)
field_other (Switch cases) value outer key other = refl

-- all but numbers of rows are as outside
pub counted_other : (body : PlainBody) (values : List Tree) (outer : Environment) (key : Key) → is_count key ≡ false → (counted body values outer).give key ≡ outer.give key
counted_other no_fields values outer key other = refl
counted_other (field_and field fields) values outer key other =
    counted_other fields (other_values (takes_value field) values) (with_field field (first_value (takes_value field) values) outer) key other
    ∙ field_other field (first_value (takes_value field) values) outer key other

unstated : (name : Option Word) (count : Option ℤ) (key : Key) → is_count key ≡ false → stated_value name count key ≡ None
unstated name None key other = refl
unstated name (Some count) key other = ap (λ (test : Bool). if test then Some count else None) (no_count name key other)

pub stated_other : (body : PlainBody) (key : Key) → is_count key ≡ false → stated_in body key ≡ None
stated_other no_fields key other = refl
stated_other (field_and (Number number) fields) key other = stated_other fields key other
stated_other (field_and (Text text) fields) key other = stated_other fields key other
stated_other (field_and (Points points) fields) key other = stated_other fields key other
stated_other (field_and (Fill unit count) fields) key other = stated_other fields key other
stated_other (field_and (Align unit) fields) key other = stated_other fields key other
stated_other (field_and (Label name) fields) key other = stated_other fields key other
stated_other (field_and (Array name count row) fields) key other =
    ap (λ (o : Option ℤ). or_else o (stated_in fields key)) (unstated name count key other) ∙ stated_other fields key other
stated_other (field_and (Switch cases) fields) key other = stated_other fields key other

-- The number of the row around.

-- the number of a row
abbrev pub is_around : Key → Bool
is_around (place_of name) = false
is_around (count_of name) = false
is_around (rows_of name) = false
is_around (place_in name number) = false
is_around (row_in name) = true

no_number : (name : Option Word) (key : Key) → is_around key ≡ false → numbers_row name key ≡ false
no_number None key other = refl
no_number (Some own) (place_of name) other = refl
no_number (Some own) (count_of name) other = refl
no_number (Some own) (rows_of name) other = refl
no_number (Some own) (place_in name number) other = refl
no_number (Some own) (row_in name) other = absurd (true_false other)

pub no_row : (which : Option RowOf) (key : Key) → is_around key ≡ false → is_row which key ≡ false
no_row None key other = refl
no_row (Some row) key other = no_number row.name key other

pub row_is_around : (which : Option RowOf) (key : Key) → is_row which key ≡ true → is_around key ≡ true
row_is_around which key is = by_test (is_around key ≡ true) (is_around key) (λ so. so) (λ other. absurd (true_false (sym is ∙ no_row which key other)))

label_no_row : (which : Option RowOf) (in_rows : Bool) (name : List ℕ) → is_row which (label_key in_rows name) ≡ false
label_no_row which false name = no_row which (place_of name) refl
label_no_row which true name = no_row which (rows_of name) refl

around_no_count : (key : Key) → is_around key ≡ true → is_count key ≡ false
around_no_count (place_of name) is = refl
around_no_count (count_of name) is = absurd (true_false (sym is))
around_no_count (rows_of name) is = refl
around_no_count (place_in name number) is = refl
around_no_count (row_in name) is = refl

label_no_count : (in_rows : Bool) (name : List ℕ) → is_count (label_key in_rows name) ≡ false
label_no_count false name = refl
label_no_count true name = refl

pub around_no_place : (body : PlainBody) (key : Key) → is_around key ≡ true → gives_places body key ≡ false
around_no_place body (place_of name) is = absurd (true_false (sym is))
around_no_place body (count_of name) is = absurd (true_false (sym is))
around_no_place body (rows_of name) is = absurd (true_false (sym is))
around_no_place body (place_in name number) is = absurd (true_false (sym is))
around_no_place body (row_in name) is = undeclared body (row_in name) (around_undeclared body name)

-- it stands later than nothing
pub around_early : (met : Names) (key : Key) → is_around key ≡ true → is_later met key ≡ false
around_early met (place_of name) is = absurd (true_false (sym is))
around_early met (count_of name) is = absurd (true_false (sym is))
around_early met (rows_of name) is = absurd (true_false (sym is))
around_early met (place_in name number) is = absurd (true_false (sym is))
around_early met (row_in name) is = refl

pub entered_none : (which : Option RowOf) (body : PlainBody) (values : List Tree) (outer : Environment) (key : Key) → declares body key ≡ false → is_row which key ≡ false
    → (entered which body values outer).give key ≡ outer.give key
entered_none which body values outer key none at_row =
    counted_none body values (names_inside which body outer) key none
    ∙ (λ i. if at_row i then row_number which else if none i then stated_in body key else outer.give key)

pub entered_row : (which : Option RowOf) (body : PlainBody) (values : List Tree) (outer : Environment) (key : Key) → is_row which key ≡ true → (entered which body values outer).give key ≡ row_number which
entered_row which body values outer key is =
    counted_other body values (names_inside which body outer) key (around_no_count key (row_is_around which key is))
    ∙ ap (λ (test : Bool). if test then row_number which else if declares body key then stated_in body key else outer.give key) is

pub entered_label : (which : Option RowOf) (body : PlainBody) (values : List Tree) (outer : Environment) (in_rows : Bool) (name : List ℕ) → declares body (label_key in_rows name) ≡ true
    → (entered which body values outer).give (label_key in_rows name) ≡ None
entered_label which body values outer in_rows name own =
    let key = label_key in_rows name in
    counted_other body values (names_inside which body outer) key (label_no_count in_rows name)
    ∙ (λ i. if label_no_row which in_rows name i then row_number which else if own i then stated_in body key else outer.give key)
    ∙ stated_other body key (label_no_count in_rows name)

pub met_entered : (which : Option RowOf) (body : PlainBody) (values : List Tree) (met : Names) (outer : Environment) → MetKnown met outer → MetKnown (met_front body met) (entered which body values outer)
met_entered which body values met outer is in_rows name = by (declares body (label_key in_rows name)) refl
  where
    by : (test : Bool) → declares body (label_key in_rows name) ≡ test
        → (not (declares body (label_key in_rows name)) && met (label_key in_rows name)) ≡ is_some ((entered which body values outer).give (label_key in_rows name))
    by true own = ap (λ (c : Bool). not c && met (label_key in_rows name)) own ∙ sym (ap is_some (entered_label which body values outer in_rows name own))
    by false own = ap (λ (c : Bool). not c && met (label_key in_rows name)) own ∙ is in_rows name
        ∙ sym (ap is_some (entered_none which body values outer (label_key in_rows name) own (label_no_row which in_rows name)))

-- A place that is given.

pub label_given : (name : Word) (at : ℕ) (names : Environment) (key : Key) → stands_at name.bytes key ≡ true → (placed (Place name) at names).give key ≡ Some (pos at)
label_given name at names key is = ap (λ (test : Bool). if test then Some (pos at) else names.give key) is

pub label_none : (name : Word) (at : ℕ) (names : Environment) (key : Key) → stands_at name.bytes key ≡ false → (placed (Place name) at names).give key ≡ names.give key
label_none name at names key is = ap (λ (test : Bool). if test then Some (pos at) else names.give key) is
