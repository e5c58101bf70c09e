-- The names of rows: which of them a row around, or a body that was entered, gives a value.
use Rattle.std.proofs.Common.{◌≡◌, ℕ, ℤ, Bool, true, false, ◌||◌, List, Option, Some, None, refl, sym, ap, ◌∙◌, arith}
use Rattle.std.specs.Prelude.{if◌then◌else◌}
use Rattle.std.specs.Str.{str_to_ascii_lowercase}
use Rattle.rz_core.proofs.Tests.{true_false}
use Rattle.rz_core.specs.declared.resource.Word.{Word}
use Rattle.rz_core.specs.Lists.{or_else}
use Rattle.rz_expr.specs.Environment.{count_of, place_in, place_of, row_in, rows_of, Key}
use Rattle.rz_types_fields.specs.Field.{field_and, no_fields, Align, Array, Fill, Label, Number, PlainBody, PlainField, Points, Switch, Text}
use Rattle.rz_types_fields.specs.Front.{stated_in, stated_value, value_inside}
use Rattle.rz_types_fields.specs.Passed.{declares, gives_count, gives_key, gives_rows, has_label}
use Rattle.rz_types_fields.specs.FlatRows.{labels_count}
use Rattle.rz_types_fields.specs.RowLabels.{is_row, numbers_row, row_number, RowOf}
use Rattle.rz_types_fields.specs.Solve.{is_same_key}

-- The row around.

-- a key of another kind isn't its number
no_number : (key : Key) → ((name : List ℕ) → is_same_key (row_in name) key ≡ false) → (name : Option Word) → numbers_row name key ≡ false
no_number key other None = refl
no_number key other (Some word) = other (str_to_ascii_lowercase word.bytes)

not_row : (key : Key) → ((name : List ℕ) → is_same_key (row_in name) key ≡ false) → (which : Option RowOf) → is_row which key ≡ false
not_row key other None = refl
not_row key other (Some row) = no_number key other row.name

pub placed_none : (which : Option RowOf) (name : List ℕ) → is_row which (place_of name) ≡ false
placed_none which name = not_row (place_of name) (λ other. refl) which

pub counted_none : (which : Option RowOf) (name : List ℕ) → is_row which (count_of name) ≡ false
counted_none which name = not_row (count_of name) (λ other. refl) which

pub labelled_none : (which : Option RowOf) (label : List ℕ) → is_row which (rows_of label) ≡ false
labelled_none which label = not_row (rows_of label) (λ other. refl) which

pub place_in_none : (which : Option RowOf) (label : List ℕ) (number : ℤ) → is_row which (place_in label number) ≡ false
place_in_none which label number = not_row (place_in label number) (λ other. refl) which

-- its number is given by no field

no_count : (name : Option Word) (array : List ℕ) → gives_count name (row_in array) ≡ false
no_count None array = refl
no_count (Some word) array = refl

no_field : (field : PlainField) (array : List ℕ) → gives_key field (row_in array) ≡ false
no_field (Number number) array = refl
no_field (Text text) array = refl
no_field (Points points) array = refl
no_field (Fill unit count) array = refl
no_field (Align unit) array = refl
no_field (Label name) array = refl
no_field (Array name count row) array = ap (λ (test : Bool). test || false) (no_count name array)
no_field (Switch cases) array = refl

pub undeclared : (body : PlainBody) (array : List ℕ) → declares body (row_in array) ≡ false
undeclared no_fields array = refl
undeclared (field_and field fields) array =
    ap (λ (test : Bool). test || declares fields (row_in array)) (no_field field array) ∙ undeclared fields array

pub row_keys : (which : Option RowOf) (key : Key) (body : PlainBody) → is_row which key ≡ true → declares body key ≡ false
row_keys which (place_of name) body is = absurd (true_false (sym is ∙ placed_none which name))
row_keys which (count_of name) body is = absurd (true_false (sym is ∙ counted_none which name))
row_keys which (rows_of label) body is = absurd (true_false (sym is ∙ labelled_none which label))
row_keys which (place_in label number) body is = absurd (true_false (sym is ∙ place_in_none which label number))
row_keys which (row_in array) body is = undeclared body array

-- Bodies.

-- a label's places in rows are given with their number
same_count : (name : Option Word) (label : List ℕ) (number : ℤ) → gives_count name (place_in label number) ≡ gives_count name (rows_of label)
same_count None label number = refl
same_count (Some word) label number = refl

same_field : (field : PlainField) (label : List ℕ) (number : ℤ) → gives_key field (place_in label number) ≡ gives_key field (rows_of label)
same_field (Number form) label number = refl
same_field (Text text) label number = refl
same_field (Points points) label number = refl
same_field (Fill unit count) label number = refl
same_field (Align unit) label number = refl
same_field (Label name) label number = refl
same_field (Array name count row) label number = ap (λ (test : Bool). test || has_label row label) (same_count name label number)
same_field (Switch cases) label number = refl

pub placed_as_counted : (body : PlainBody) (label : List ℕ) (number : ℤ) → declares body (place_in label number) ≡ declares body (rows_of label)
placed_as_counted no_fields label number = refl
placed_as_counted (field_and field fields) label number =
    (λ i. same_field field label number i || placed_as_counted fields label number i)

-- no number of rows that is stated is that of a key of another kind

counts_none : (key : Key) → ((name : List ℕ) → is_same_key (count_of name) key ≡ false) → (name : Option Word) → gives_count name key ≡ false
counts_none key other None = refl
counts_none key other (Some word) = other (str_to_ascii_lowercase word.bytes)

stated_none : (key : Key) → ((name : List ℕ) → is_same_key (count_of name) key ≡ false) → (name : Option Word) (count : Option ℤ) → stated_value name count key ≡ None
stated_none key other name None = refl
stated_none key other name (Some rows) = ap (λ (test : Bool). if test then Some rows else None) (counts_none key other name)

pub no_stated : (key : Key) → ((name : List ℕ) → is_same_key (count_of name) key ≡ false) → (body : PlainBody) → stated_in body key ≡ None
no_stated key other no_fields = refl
no_stated key other (field_and (Number number) fields) = no_stated key other fields
no_stated key other (field_and (Text text) fields) = no_stated key other fields
no_stated key other (field_and (Points points) fields) = no_stated key other fields
no_stated key other (field_and (Fill unit count) fields) = no_stated key other fields
no_stated key other (field_and (Align unit) fields) = no_stated key other fields
no_stated key other (field_and (Label name) fields) = no_stated key other fields
no_stated key other (field_and (Array name count row) fields) =
    ap (λ (stated : Option ℤ). or_else stated (stated_in fields key)) (stated_none key other name count) ∙ no_stated key other fields
no_stated key other (field_and (Switch cases) fields) = no_stated key other fields

-- so a body that was entered gives such a key no value, or hides none

hidden : (which : Option RowOf) (body : PlainBody) (key : Key) (before : Option ℤ) → is_row which key ≡ false → stated_in body key ≡ None
    → value_inside which body key before ≡ (if declares body key then None else before)
hidden which body key before row stated =
    ap (λ (test : Bool). if test then row_number which else if declares body key then stated_in body key else before) row
    ∙ ap (λ (given : Option ℤ). if declares body key then given else before) stated

pub entered_rows : (which : Option RowOf) (body : PlainBody) (label : List ℕ) (before : Option ℤ)
    → value_inside which body (rows_of label) before ≡ (if declares body (rows_of label) then None else before)
entered_rows which body label before =
    hidden which body (rows_of label) before (labelled_none which label) (no_stated (rows_of label) (λ name. refl) body)

pub entered_place_in : (which : Option RowOf) (body : PlainBody) (label : List ℕ) (number : ℤ) (before : Option ℤ)
    → value_inside which body (place_in label number) before ≡ (if declares body (rows_of label) then None else before)
entered_place_in which body label number before =
    hidden which body (place_in label number) before (place_in_none which label number) (no_stated (place_in label number) (λ name. refl) body)
    ∙ ap (λ (test : Bool). if test then None else before) (placed_as_counted body label number)

pub entered_row : (which : Option RowOf) (body : PlainBody) (array : List ℕ) (before : Option ℤ)
    → value_inside which body (row_in array) before ≡ (if is_row which (row_in array) then row_number which else before)
entered_row which body array before =
    ap (λ (test : Bool). if is_row which (row_in array) then row_number which else if test then stated_in body (row_in array) else before) (undeclared body array)

-- Rows without labels.

-- a row without labels has none of this name, and gives nothing a value
pub no_label : (row : PlainBody) (label : List ℕ) → labels_count row ≡ 0 → has_label row label ≡ false
no_label no_fields label none = refl
no_label (field_and (Number number) fields) label none = no_label fields label (omega (arith, none))
no_label (field_and (Text text) fields) label none = no_label fields label (omega (arith, none))
no_label (field_and (Points points) fields) label none = no_label fields label (omega (arith, none))
no_label (field_and (Fill unit count) fields) label none = no_label fields label (omega (arith, none))
no_label (field_and (Align unit) fields) label none = no_label fields label (omega (arith, none))
no_label (field_and (Label name) _) label none = absurd (omega (arith, none))
no_label (field_and (Array name count row) fields) label none = no_label fields label (omega (arith, none))
no_label (field_and (Switch cases) fields) label none = no_label fields label (omega (arith, none))

pub no_rows : (row : PlainBody) → ((label : List ℕ) → has_label row label ≡ false) → (key : Key) → gives_rows row key ≡ false
no_rows row none (place_of name) = refl
no_rows row none (count_of name) = refl
no_rows row none (rows_of label) = none label
no_rows row none (place_in label number) = none label
no_rows row none (row_in array) = refl

pub no_labels : (row : PlainBody) → labels_count row ≡ 0 → (key : Key) → gives_rows row key ≡ false
no_labels row none key = no_rows row (λ label. no_label row label none) key
