-- What is read with at most so many values.
use Rattle.std.specs.Prelude.{ℕ, nat_le, if◌then◌else◌, Option, Some, None}
use Rattle.rz_types_fields.specs.declared.tree.Tree.{Tree}
use Rattle.rz_types_fields.specs.Spells.{count_in}
use Rattle.rz_unlay_pieces.specs.Pieces.{Step}

-- what is found, where it counts no more than that
abbrev pub few : {X : Type 0} → (X → ℕ) → ℕ → Option X → Option X
few count most None = None
few count most (Some found) = if nat_le (count found) most then Some found else None

-- how many values one counts, where there is one
abbrev pub value_count : Option Tree → ℕ
value_count None = 0
value_count (Some value) = count_in value

abbrev pub step_count : Step → ℕ
step_count step = value_count step.value
