-- How long the stored forms of texts are.
use Rattle.std.specs.Prelude.{ℕ, ◌+◌, Option, None, Some}
use Rattle.rz_types_fields.specs.declared.field.TextForm.{TextForm}
use Rattle.rz_types_fields.specs.declared.field.TextForm.TheVariants.{Open, Pascal, WordLong, Zero}
use Rattle.rz_types.specs.Stored.{before_zero}

-- the bytes that a size leaves or fills to
abbrev pub sized_length : Option ℕ → ℕ → ℕ
sized_length None count = count
sized_length (Some size) count = size

abbrev pub stored_length : TextForm → Option ℕ → ℕ → ℕ
stored_length Open size count = sized_length size count
stored_length Pascal size count = sized_length size count + 1
stored_length WordLong size count = sized_length size count + 2
stored_length Zero size count = sized_length (before_zero size) count + 1
