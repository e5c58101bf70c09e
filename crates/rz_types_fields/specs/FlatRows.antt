-- How the code keeps the places of labels in rows: in one list, row by row.
use Rattle.std.specs.Prelude.{◌≡◌, ℕ, ◌+◌, ◌-◌, ◌*◌, ℤ, pos, nat_abs, int_le, ◌&&◌, if◌then◌else◌, List, [], ◌∷◌, ◌++◌, slice_get, Option, Some, None}
use Rattle.rz_expr.specs.Environment.{place_in, place_key, place_of, rows_of, Environment, Key}
use Rattle.rz_types_fields.specs.Field.{field_and, no_fields, Label, PlainBody, PlainField}
use Rattle.rz_types_fields.specs.Passed.{is_label}

abbrev pub label_count : PlainField → ℕ
label_count (Label name) = 1
label_count field = 0

-- how many labels stand directly in a body
abbrev pub labels_count : PlainBody → ℕ
labels_count no_fields = 0
labels_count (field_and field fields) = label_count field + labels_count fields

-- how many of them stand before the first of this name
abbrev pub label_index : PlainBody → List ℕ → ℕ
label_index no_fields label = 0
label_index (field_and field fields) label = if is_label field (place_of label) then 0 else label_count field + label_index fields label

-- what the code gives a key by the places of the labels in so many rows
abbrev pub row_value : PlainBody → ℕ → List ℤ → Key → Option ℤ
row_value row count places (rows_of label) = Some (pos count)
row_value row count places (place_in label number) =
    if int_le (pos 1) number && int_le number (pos count) then slice_get places ((nat_abs number - 1) * labels_count row + label_index row label) else None
row_value row count places key = None

-- the labels that stand directly in a body have these places, in order
abbrev pub PlacesAre : Environment → PlainBody → List ℤ → Type 0
PlacesAre own no_fields places = places ≡ []
PlacesAre own (field_and (Label name) _) [] = ⊥
PlacesAre own (field_and (Label name) fields) (place ∷ places) = (own.give (place_key name.bytes) ≡ Some place) × PlacesAre own fields places
PlacesAre own (field_and field fields) places = PlacesAre own fields places

-- these are the places of the labels in rows with these ends, row by row
abbrev pub AllPlacesAre : PlainBody → List Environment → List ℤ → Type 0
AllPlacesAre row [] places = places ≡ []
AllPlacesAre row (own ∷ ends) places = (first : List ℤ) × (others : List ℤ) × (places ≡ first ++ others) × PlacesAre own row first × AllPlacesAre row ends others
