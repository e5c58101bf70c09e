-- The places of labels: of those that stand directly in a body, in order, and of those in the rows of an array, row by row.
use Rattle.std.proofs.Common.{◌≡◌, ℕ, zero, suc, ◌+◌, ◌<◌, ℤ, Bool, true, false, ◌||◌, List, [], ◌∷◌, ◌++◌, length, Some, refl, sym, ap, ◌∙◌, arith}
use Rattle.std.specs.Prelude.{if◌then◌else◌, slice_get}
use Rattle.rz_core.specs.declared.resource.Word.{Word}
use Rattle.rz_expr.specs.Environment.{place_key, place_of, Environment}
use Rattle.rz_types_fields.specs.Field.{field_and, no_fields, Align, Array, Fill, Label, Number, PlainBody, Points, Switch, Text}
use Rattle.rz_types_fields.specs.Passed.{has_label}
use Rattle.rz_types_fields.specs.FlatRows.{label_index, labels_count, PlacesAre}
use Rattle.rz_types_fields.specs.Solve.{is_same_key}
use Rattle.rz_types_fields.proofs.SameNames.{key_is}

none_more : (n : ℕ) → n ≡ 0 + n
none_more n = omega (arith)

one_more : (n : ℕ) → suc n ≡ 1 + n
one_more n = omega (arith)

-- A body.

-- there are as many as labels
pub places_length : (own : Environment) (body : PlainBody) (places : List ℤ) → PlacesAre own body places → length places ≡ labels_count body
places_length own no_fields places are = ap length are
places_length own (field_and (Number number) fields) places are = places_length own fields places are ∙ none_more (labels_count fields)
places_length own (field_and (Text text) fields) places are = places_length own fields places are ∙ none_more (labels_count fields)
places_length own (field_and (Points points) fields) places are = places_length own fields places are ∙ none_more (labels_count fields)
places_length own (field_and (Fill unit count) fields) places are = places_length own fields places are ∙ none_more (labels_count fields)
places_length own (field_and (Align unit) fields) places are = places_length own fields places are ∙ none_more (labels_count fields)
places_length own (field_and (Label name) _) [] are = absurd are
places_length own (field_and (Label name) fields) (place ∷ places) are = ap suc (places_length own fields places are.1) ∙ one_more (labels_count fields)
places_length own (field_and (Array name count row) fields) places are = places_length own fields places are ∙ none_more (labels_count fields)
places_length own (field_and (Switch cases) fields) places are = places_length own fields places are ∙ none_more (labels_count fields)

-- a label has the place at its index
abbrev pub HasOwnPlace : Environment → List ℤ → ℕ → List ℕ → Type 0
HasOwnPlace own places index label = (place : ℤ) × (slice_get places index ≡ Some place) × (own.give (place_of label) ≡ Some place)

no_label : (own : Environment) (places : List ℤ) (label : List ℕ) (index : ℕ) → HasOwnPlace own places index label → HasOwnPlace own places (0 + index) label
no_label own places label index it = (it.0, ap (slice_get places) (sym (none_more index)) ∙ it.1, it.2)

label_there : (own : Environment) (name : Word) (place : ℤ) (places : List ℤ) (index : ℕ) (others : Bool) (label : List ℕ) → own.give (place_key name.bytes) ≡ Some place → (others ≡ true → HasOwnPlace own places index label)
    → (test : Bool) → is_same_key (place_key name.bytes) (place_of label) ≡ test → (test || others) ≡ true → HasOwnPlace own (place ∷ places) (if test then 0 else 1 + index) label
label_there own name place places index others label stands behind true same has = (place, refl, sym (ap own.give (key_is (place_key name.bytes) (place_of label) same)) ∙ stands)
label_there own name place places index others label stands behind false differ has =
    let it = behind has in (it.0, ap (slice_get (place ∷ places)) (sym (one_more index)) ∙ it.1, it.2)

pub place_there : (own : Environment) (body : PlainBody) (places : List ℤ) (label : List ℕ) → PlacesAre own body places → has_label body label ≡ true → HasOwnPlace own places (label_index body label) label
place_there own no_fields places label are has = absurd cc
place_there own (field_and (Number number) fields) places label are has = no_label own places label (label_index fields label) (place_there own fields places label are has)
place_there own (field_and (Text text) fields) places label are has = no_label own places label (label_index fields label) (place_there own fields places label are has)
place_there own (field_and (Points points) fields) places label are has = no_label own places label (label_index fields label) (place_there own fields places label are has)
place_there own (field_and (Fill unit count) fields) places label are has = no_label own places label (label_index fields label) (place_there own fields places label are has)
place_there own (field_and (Align unit) fields) places label are has = no_label own places label (label_index fields label) (place_there own fields places label are has)
place_there own (field_and (Label name) _) [] label are has = absurd are
place_there own (field_and (Label name) fields) (place ∷ places) label are has =
    label_there own name place places (label_index fields label) (has_label fields label) label are.0 (place_there own fields places label are.1) (is_same_key (place_key name.bytes) (place_of label)) refl has
place_there own (field_and (Array name count row) fields) places label are has = no_label own places label (label_index fields label) (place_there own fields places label are has)
place_there own (field_and (Switch cases) fields) places label are has = no_label own places label (label_index fields label) (place_there own fields places label are has)

-- its index is one of theirs
pub index_short : (body : PlainBody) (label : List ℕ) → has_label body label ≡ true → label_index body label < labels_count body
index_short no_fields label has = absurd cc
index_short (field_and (Number number) fields) label has = let less = index_short fields label has in omega (arith, less)
index_short (field_and (Text text) fields) label has = let less = index_short fields label has in omega (arith, less)
index_short (field_and (Points points) fields) label has = let less = index_short fields label has in omega (arith, less)
index_short (field_and (Fill unit count) fields) label has = let less = index_short fields label has in omega (arith, less)
index_short (field_and (Align unit) fields) label has = let less = index_short fields label has in omega (arith, less)
index_short (field_and (Label name) fields) label has = by (is_same_key (place_key name.bytes) (place_of label)) (has_label fields label) (index_short fields label) has
  where
    by : (test others : Bool) → (others ≡ true → label_index fields label < labels_count fields) → (test || others) ≡ true → (if test then 0 else 1 + label_index fields label) < 1 + labels_count fields
    by true others short is = omega (arith)
    by false others short is = let less = short is in omega (arith, less)
index_short (field_and (Array name count row) fields) label has = let less = index_short fields label has in omega (arith, less)
index_short (field_and (Switch cases) fields) label has = let less = index_short fields label has in omega (arith, less)

-- Rows.

pub get_front : (xs ys : List ℤ) (i : ℕ) → i < length xs → slice_get (xs ++ ys) i ≡ slice_get xs i
get_front [] ys i less = absurd (omega (arith, less))
get_front (x ∷ xs) ys zero less = refl
get_front (x ∷ xs) ys (suc i) less = get_front xs ys i (omega (arith, less))

pub get_behind : (xs ys : List ℤ) (i n : ℕ) → n ≡ length xs + i → slice_get (xs ++ ys) n ≡ slice_get ys i
get_behind [] ys i n is = ap (slice_get ys) (omega (arith, is))
get_behind (x ∷ xs) ys i zero is = absurd (omega (arith, is))
get_behind (x ∷ xs) ys i (suc n) is = get_behind xs ys i n (omega (arith, is))
