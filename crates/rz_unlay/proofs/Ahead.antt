-- What stands ahead of a field is so in the finished names.
use Rattle.std.proofs.Common.{◌≡◌, ℕ, ◌+◌, ◌≤◌, ℤ, pos, Bool, true, List, length, Some}
use Rattle.rz_expr.specs.Environment.{place_of, predefined, Environment, IsPartOf, Key}
use Rattle.rz_types_fields.specs.Field.{field_and, PlainBody, PlainField}
use Rattle.rz_types_fields.specs.Passed.{declares}
use Rattle.rz_unlay_pieces.specs.Ahead.{near_place, told_label, Told}

-- `true` and `false` have their values
abbrev pub HasPlaces : Environment → Type 0
HasPlaces env = (name : List ℕ) (value : ℤ) → predefined name ≡ Some value → env.give (place_of name) ≡ Some value

-- the labels that are near stand there, all labels after the field stand in the resource, and one whose place is told stands
-- so far after it
pub record Ahead (all : List Bool) (field : PlainField) (rest : PlainBody) (env : Environment) (at after : ℕ) : Type 0 where
  pub near : (key : Key) (place : ℕ) → near_place (field_and field rest) at key ≡ Some place → (env.give key ≡ Some (pos place)) × (place ≤ length all)
  pub lies : (name : List ℕ) → declares rest (place_of name) ≡ true → (place : ℕ) × (env.give (place_of name) ≡ Some (pos place)) × (place ≤ length all)
  pub stops : (names : Environment) → IsPartOf names env → (told : Told) → told_label (length all) rest names ≡ Some told → told.place ≡ after + told.width
