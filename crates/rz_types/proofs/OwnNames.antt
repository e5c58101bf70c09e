-- The names of a body that keeps the rules: which are among them, and that they differ.
use Rattle.std.proofs.Common.{◌≡◌, ℕ, Bool, true, false, ◌||◌, List, [], ◌∷◌, ◌++◌, Some, None, refl, sym, ap, ◌∙◌}
use Rattle.std.proofs.Math.Bool.{or-false}
use Rattle.std.proofs.lemmas.List.Folds.{list_any-append}
use Rattle.std.specs.List.{AllByRecursion}
use Rattle.std.specs.Str.{str_eq_ignore_ascii_case, str_to_ascii_lowercase}
use Rattle.rz_core.proofs.Folds.{same_lower}
use Rattle.rz_core.proofs.Tests.{by_test, true_false}
use Rattle.rz_core.specs.declared.resource.Word.{Word}
use Rattle.rz_expr.specs.Environment.{count_key, count_of, place_in, place_key, place_of, row_in, rows_key, rows_of, Key}
use Rattle.rz_types_fields.proofs.RowKeys.{placed_as_counted}
use Rattle.rz_types_fields.proofs.SameNames.{key_is, same_name as folded_name}
use Rattle.rz_types_fields.specs.Field.{field_and, no_fields, Align, Array, Fill, Label, Number, PlainBody, PlainField, Points, Switch, Text}
use Rattle.rz_types_fields.specs.Passed.{counts_rows, declares, gives_key, gives_rows, has_label, stands_at}
use Rattle.rz_types.specs.Kept.{AreOwn, Differ}
use Rattle.rz_types.specs.Walk.{is_among, labels_in, names_of}
use Rattle.rz_types.proofs.Texts.{each_append}

or_only : (a b : Bool) → (a || b) ≡ true → b ≡ false → a ≡ true
or_only true b is none = refl
or_only false b is none = sym none ∙ is

other_name : (one other : List ℕ) → str_eq_ignore_ascii_case one other ≡ false → str_eq_ignore_ascii_case other one ≡ false
other_name one other is =
    by_test (str_eq_ignore_ascii_case other one ≡ false) (str_eq_ignore_ascii_case other one)
    (λ same. absurd (true_false (sym ((same_lower one other).1 (sym ((same_lower other one).0 same))) ∙ is)))
    (λ no. no)

-- A name is among the labels or the arrays of a body exactly where the body gives its key a value.

pub among_places : (name : List ℕ) (body : PlainBody) → is_among name (names_of body).labels ≡ declares body (place_key name)
among_places name no_fields = refl
among_places name (field_and (Number number) fields) = among_places name fields
among_places name (field_and (Text text) fields) = among_places name fields
among_places name (field_and (Points points) fields) = among_places name fields
among_places name (field_and (Fill unit count) fields) = among_places name fields
among_places name (field_and (Align unit) fields) = among_places name fields
among_places name (field_and (Label own) fields) = λ i. folded_name own.bytes name i || among_places name fields i
among_places name (field_and (Array None count row) fields) = among_places name fields
among_places name (field_and (Array (Some own) count row) fields) = among_places name fields
among_places name (field_and (Switch cases) fields) = among_places name fields

pub among_counts : (name : List ℕ) (body : PlainBody) → is_among name (names_of body).arrays ≡ declares body (count_key name)
among_counts name no_fields = refl
among_counts name (field_and (Number number) fields) = among_counts name fields
among_counts name (field_and (Text text) fields) = among_counts name fields
among_counts name (field_and (Points points) fields) = among_counts name fields
among_counts name (field_and (Fill unit count) fields) = among_counts name fields
among_counts name (field_and (Align unit) fields) = among_counts name fields
among_counts name (field_and (Label own) fields) = among_counts name fields
among_counts name (field_and (Array None count row) fields) = among_counts name fields
among_counts name (field_and (Array (Some own) count row) fields) = λ i. (folded_name own.bytes name ∙ sym (or-false (counts_rows own.bytes (count_key name)))) i || among_counts name fields i
among_counts name (field_and (Switch cases) fields) = among_counts name fields

among_labels : (name : List ℕ) (row : PlainBody) → is_among name (labels_in row) ≡ has_label row (str_to_ascii_lowercase name)
among_labels name no_fields = refl
among_labels name (field_and (Number number) fields) = among_labels name fields
among_labels name (field_and (Text text) fields) = among_labels name fields
among_labels name (field_and (Points points) fields) = among_labels name fields
among_labels name (field_and (Fill unit count) fields) = among_labels name fields
among_labels name (field_and (Align unit) fields) = among_labels name fields
among_labels name (field_and (Label own) fields) = λ i. folded_name own.bytes name i || among_labels name fields i
among_labels name (field_and (Array own count row) fields) = among_labels name fields
among_labels name (field_and (Switch cases) fields) = among_labels name fields

among_more : (name : List ℕ) (row fields : PlainBody) → is_among name (names_of fields).indexed ≡ declares fields (rows_key name)
    → is_among name (labels_in row ++ (names_of fields).indexed) ≡ (has_label row (str_to_ascii_lowercase name) || declares fields (rows_key name))
among_more name row fields rest =
    list_any-append (λ (w : Word). str_eq_ignore_ascii_case w.bytes name) (labels_in row) (names_of fields).indexed ∙ (λ i. among_labels name row i || rest i)

pub among_rows : (name : List ℕ) (body : PlainBody) → is_among name (names_of body).indexed ≡ declares body (rows_key name)
among_rows name no_fields = refl
among_rows name (field_and (Number number) fields) = among_rows name fields
among_rows name (field_and (Text text) fields) = among_rows name fields
among_rows name (field_and (Points points) fields) = among_rows name fields
among_rows name (field_and (Fill unit count) fields) = among_rows name fields
among_rows name (field_and (Align unit) fields) = among_rows name fields
among_rows name (field_and (Label own) fields) = among_rows name fields
among_rows name (field_and (Array None count row) fields) = among_more name row fields (among_rows name fields)
among_rows name (field_and (Array (Some own) count row) fields) = among_more name row fields (among_rows name fields)
among_rows name (field_and (Switch cases) fields) = among_rows name fields

-- Different names.

abbrev DiffersFrom : List ℕ → List Word → Type 0
DiffersFrom one names = AllByRecursion (λ later. str_eq_ignore_ascii_case one later.bytes ≡ false) names

not_among : (one : List ℕ) (names : List Word) → DiffersFrom one names → is_among one names ≡ false
not_among one [] differs = refl
not_among one (name ∷ names) differs = ap (λ (test : Bool). test || is_among one names) (other_name one name.bytes differs.0) ∙ not_among one names differs.1

-- the labels in the rows of an array aren't those in the rows of another
abbrev rows_for : Key → Key
rows_for (place_of name) = rows_of name
rows_for (count_of name) = count_of name
rows_for (rows_of name) = rows_of name
rows_for (place_in name number) = place_in name number
rows_for (row_in name) = row_in name

row_apart : (row fields : PlainBody) → Differ (labels_in row ++ (names_of fields).indexed) → (label : List ℕ) → has_label row label ≡ true → declares fields (rows_of label) ≡ false
row_apart no_fields fields differ label is = absurd (true_false (sym is))
row_apart (field_and (Number number) row) fields differ label is = row_apart row fields differ label is
row_apart (field_and (Text text) row) fields differ label is = row_apart row fields differ label is
row_apart (field_and (Points points) row) fields differ label is = row_apart row fields differ label is
row_apart (field_and (Fill unit count) row) fields differ label is = row_apart row fields differ label is
row_apart (field_and (Align unit) row) fields differ label is = row_apart row fields differ label is
row_apart (field_and (Label name) row) fields differ label is =
    by_test (declares fields (rows_of label) ≡ false) (stands_at name.bytes (place_of label))
    (λ same. ap (λ (key : Key). declares fields (rows_for key)) (sym (key_is (place_key name.bytes) (place_of label) same)) ∙ sym (among_rows name.bytes fields)
    ∙ not_among name.bytes (names_of fields).indexed (each_append (λ (later : Word). str_eq_ignore_ascii_case name.bytes later.bytes ≡ false) (labels_in row) (names_of fields).indexed differ.0).1)
    (λ other. row_apart row fields differ.1 label (sym (ap (λ (test : Bool). test || has_label row label) other) ∙ is))
row_apart (field_and (Array own count inner) row) fields differ label is = row_apart row fields differ label is
row_apart (field_and (Switch cases) row) fields differ label is = row_apart row fields differ label is

rows_apart : (row fields : PlainBody) → Differ (labels_in row ++ (names_of fields).indexed) → (key : Key) → gives_rows row key ≡ true → declares fields key ≡ false
rows_apart row fields differ (place_of name) is = absurd (true_false (sym is))
rows_apart row fields differ (count_of name) is = absurd (true_false (sym is))
rows_apart row fields differ (rows_of name) is = row_apart row fields differ name is
rows_apart row fields differ (place_in name number) is = placed_as_counted fields name number ∙ row_apart row fields differ name is
rows_apart row fields differ (row_in name) is = absurd (true_false (sym is))

differ_rest : (row : PlainBody) (names : List Word) → Differ (labels_in row ++ names) → Differ names
differ_rest no_fields names differ = differ
differ_rest (field_and (Number number) row) names differ = differ_rest row names differ
differ_rest (field_and (Text text) row) names differ = differ_rest row names differ
differ_rest (field_and (Points points) row) names differ = differ_rest row names differ
differ_rest (field_and (Fill unit count) row) names differ = differ_rest row names differ
differ_rest (field_and (Align unit) row) names differ = differ_rest row names differ
differ_rest (field_and (Label name) row) names differ = differ_rest row names differ.1
differ_rest (field_and (Array own count inner) row) names differ = differ_rest row names differ
differ_rest (field_and (Switch cases) row) names differ = differ_rest row names differ

-- a field gives no name a value that a field after it gives one
pub apart_field : (field : PlainField) (fields : PlainBody) → AreOwn (names_of (field_and field fields)) → (key : Key) → gives_key field key ≡ true → declares fields key ≡ false
apart_field (Number number) fields own key gives = absurd (true_false (sym gives))
apart_field (Text text) fields own key gives = absurd (true_false (sym gives))
apart_field (Points points) fields own key gives = absurd (true_false (sym gives))
apart_field (Fill unit count) fields own key gives = absurd (true_false (sym gives))
apart_field (Align unit) fields own key gives = absurd (true_false (sym gives))
apart_field (Label name) fields own key gives =
    ap (declares fields) (sym (key_is (place_key name.bytes) key gives)) ∙ sym (among_places name.bytes fields) ∙ not_among name.bytes (names_of fields).labels own.0.0
apart_field (Array None count row) fields own key gives = rows_apart row fields own.2 key gives
apart_field (Array (Some name) count row) fields own key gives =
    by_test (declares fields key ≡ false) (gives_rows row key)
    (λ in_rows. rows_apart row fields own.2 key in_rows)
    (λ other. ap (declares fields) (sym (key_is (count_key name.bytes) key (or_only (counts_rows name.bytes key) (gives_rows row key) gives other)))
    ∙ sym (among_counts name.bytes fields) ∙ not_among name.bytes (names_of fields).arrays own.1.0)
apart_field (Switch cases) fields own key gives = absurd (true_false (sym gives))

pub rest_own : (field : PlainField) (fields : PlainBody) → AreOwn (names_of (field_and field fields)) → AreOwn (names_of fields)
rest_own (Number number) fields own = own
rest_own (Text text) fields own = own
rest_own (Points points) fields own = own
rest_own (Fill unit count) fields own = own
rest_own (Align unit) fields own = own
rest_own (Label name) fields own = (own.0.1, own.1, own.2)
rest_own (Array None count row) fields own = (own.0, own.1, differ_rest row (names_of fields).indexed own.2)
rest_own (Array (Some name) count row) fields own = (own.0, own.1.1, differ_rest row (names_of fields).indexed own.2)
rest_own (Switch cases) fields own = own
