-- How the code holds bits: as whole bytes, and their number.
use Rattle.std.specs.Prelude.{◌≡◌, ℕ, ◌+◌, ◌-◌, ◌*◌, ◌/◌, ◌%◌, ◌^◌, ◌<◌, Bool, List, length, take}
use Rattle.rz_bits.specs.Bits.{bits_of}
use Rattle.rz_bits.specs.BitBuf.{missing, filled}

-- the first of the bits of bytes, so many
abbrev pub held : List ℕ → ℕ → List Bool
held bytes count = take count (bits_of bytes)

-- so many bits are there, and the bytes have them alone, filled with zero bits
pub record IsHeld (bytes : List ℕ) (count : ℕ) : Type 0 where
  pub there : length (held bytes count) ≡ count
  pub filled : bits_of bytes ≡ filled 8 (held bytes count)
  pub below : count < 2 ^ 31

-- the number that is written by the used bits of an open byte, the last digits of a value, and the zero bits to the
-- end of a byte
abbrev pub spelled : ℕ → ℕ → ℕ → ℕ → ℕ
spelled byte used value width = (byte / 2 ^ (8 - used) * 2 ^ width + value % 2 ^ width) * 2 ^ missing 8 (used + width)
