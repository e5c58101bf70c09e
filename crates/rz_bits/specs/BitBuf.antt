-- Bits that are filled with zero bits.
use Rattle.std.specs.Prelude.{ℕ, ◌-◌, ◌%◌, Bool, false, List, ◌++◌, length, replicate}

-- the number of bits from a place to the next multiple of a unit
abbrev pub missing : ℕ → ℕ → ℕ
missing unit place = (unit - place % unit) % unit

-- so many zero bits
abbrev pub zeros : ℕ → List Bool
zeros count = replicate count false

-- bits, and the zero bits to the next multiple of a unit
abbrev pub filled : ℕ → List Bool → List Bool
filled unit bits = bits ++ zeros (missing unit (length bits))
