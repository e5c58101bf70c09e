-- Numbers with fixed values, where the names in them are known.
use Rattle.std.specs.Prelude.{ℕ, ◌+◌, ℤ, nat_abs, if◌then◌else◌, Option, Some, None}
use Rattle.rz_expr.specs.Environment.{Environment, Sight}
use Rattle.rz_expr.specs.Term.{Term}
use Rattle.rz_expr.specs.Value.{value_of}
use Rattle.rz_types_fields.specs.declared.field.NumForm.{NumForm}
use Rattle.rz_types_fields.specs.Passed.{Names}
use Rattle.rz_types_fields.specs.Sees.{is_late, Late}
use Rattle.rz_unlay_pieces.specs.Pieces.{is_stored, late_behind, Step}

-- a number that is stored as this one, where its expression sees so much
abbrev pub stored_step : Names → NumForm → ℤ → Term → ℕ → Sight → Environment → ℕ → Late → Option Step
stored_step met form width term number sight names at late =
    if is_stored form width (value_of term sight) number
    then Some (record { value = None; after = at + nat_abs width; names = names; late = late_behind late (nat_abs width) (is_late met late term sight) }) else None
