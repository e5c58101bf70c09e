-- Rows as they are read.
use Rattle.std.specs.Prelude.{ℕ, ℤ, pos, ◌+◌, ◌==◌, nat_lt, Bool, ◌&&◌, List, [], ◌∷◌, ◌++◌, length, drop, Option, Some, None}
use Rattle.rz_bits.specs.Bits.{number_of}
use Rattle.rz_types_fields.specs.Field.{Label, PlainField}
use Rattle.rz_types_fields.specs.declared.tree.Tree.{Tree}

-- a row with one value more, where there is one
abbrev pub pushed : List Tree → Option Tree → List Tree
pushed row None = row
pushed row (Some value) = row ++ value ∷ []

-- fewer than eight bits stand after a place, all zero
abbrev pub is_end : List Bool → ℕ → Bool
is_end all at = nat_lt (length all) (at + 8) && (number_of (drop at all) == 0)

-- the place of a label, where the field is one
abbrev pub label_places : PlainField → ℕ → List ℤ
label_places (Label name) at = pos at ∷ []
label_places field at = []
