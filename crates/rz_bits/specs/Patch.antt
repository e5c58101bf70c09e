-- A number in which other digits stand.
use Rattle.std.specs.Prelude.{ℕ, ◌+◌, ◌*◌, ◌/◌, ◌%◌, ◌^◌}

-- the number whose digits before the last `behind` are, in `width` of them, the last ones of a value
abbrev pub patched : ℕ → ℕ → ℕ → ℕ → ℕ
patched number behind width value = (number / 2 ^ (behind + width) * 2 ^ width + value % 2 ^ width) * 2 ^ behind + number % 2 ^ behind
