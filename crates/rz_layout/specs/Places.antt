-- The places of labels at the ends of rows, as the code takes them from what is noted, and what it answers of rows.
use Rattle.std.specs.Prelude.{◌≡◌, ℕ, ◌≤◌, ℤ, pos, List, ◌++◌, Some, Ok, Err, Vec}
use Rattle.std.specs.declared.result.Result.{Result}
use Rattle.rz_expr.specs.Environment.{place_key, Environment}
use Rattle.rz_types_fields.specs.Field.{field_and, no_fields, Label, PlainBody, PlainField}
use Rattle.rz_types_fields.specs.FlatRows.{AllPlacesAre, PlacesAre}
use Rattle.rz_types_fields.specs.Laid.{AllRows, Draft, Ended, Refusal}
use Rattle.rz_types_fields.specs.Spells.{most_bits}

-- a label stands at a place that a resource may have
abbrev pub Stands : Environment → List ℕ → Type 0
Stands names name = (at : ℕ) × (names.give (place_key name) ≡ Some (pos at)) × (at ≤ most_bits)

-- a field does, where it is a label
abbrev pub IsStanding : Environment → PlainField → Type 0
IsStanding names (Label name) = Stands names name.bytes
IsStanding names field = Unit {0}

-- the labels that stand directly in a body do
abbrev pub AreStanding : Environment → PlainBody → Type 0
AreStanding names no_fields = Unit {0}
AreStanding names (field_and field fields) = IsStanding names field × AreStanding names fields

-- their places were appended, in order
abbrev pub AddsPlaces : Environment → PlainBody → List ℤ → List ℤ → Type 0
AddsPlaces names body old new = (own : List ℤ) × (new ≡ old ++ own) × PlacesAre names body own

abbrev pub items_of : {A : Type 0} → Vec ℤ A → List ℤ
items_of places = places.items

-- a row was laid, and the places that its labels have at its end were appended; or it is refused
abbrev pub IsRowLaid : Result Ended Refusal → PlainBody → Draft → List ℤ → Result (List ℤ) Refusal → Type 0
IsRowLaid answer row draft old (Ok new) = (own : Environment) × (answer ≡ Ok (record { draft = draft; own = own })) × AddsPlaces own row old new
IsRowLaid answer row draft old (Err fault) = answer ≡ Err fault

-- rows were laid, and these are the places that labels have at their ends, row by row; or one is refused
abbrev pub AreRowsLaid : Result AllRows Refusal → PlainBody → Draft → Result (List ℤ) Refusal → Type 0
AreRowsLaid answer row draft (Ok places) = (ends : List Environment) × (answer ≡ Ok (record { draft = draft; ends = ends })) × AllPlacesAre row ends places
AreRowsLaid answer row draft (Err fault) = answer ≡ Err fault
