-- What stands at a place of a file. Numbers have the highest byte first. (RFC 1740; MacBinary II.)
use Rattle.std.specs.Prelude.{ℕ, ℤ, ◌+◌, ◌*◌, ◌/◌, ◌-◌, List, ◌++◌, length, take, drop, replicate}
use Rattle.std.specs.Int.{cast_signed, w16}
use Rattle.rz_core.specs.Numbers.{number}

-- the signed number in 2 bytes
abbrev pub signed : List ℕ → ℕ → ℤ
signed bytes place = cast_signed w16 (number 2 bytes place)

-- so many bytes from a place on, as far as the file has them
unfoldable pub piece : List ℕ → ℕ → ℕ → List ℕ
piece bytes place count = take count (drop place bytes)

-- a length rounded up to a multiple of 128
unfoldable pub filled : ℕ → ℕ
filled length = (length + 127) / 128 * 128

-- bytes with the zeros that fill them to a multiple of 128
unfoldable pub with_filler : List ℕ → List ℕ
with_filler bytes = bytes ++ replicate (filled (length bytes) - length bytes) 0
