-- Bits and bytes at a place among all bits, where they are there. (Inside Macintosh: More Macintosh Toolbox, Resource
-- Manager; MPW Rez.)
use Rattle.std.specs.Prelude.{ℕ, ◌+◌, ◌*◌, nat_le, Bool, if◌then◌else◌, List, length, take, drop, Option, Some, None, option_map}
use Rattle.rz_bits.specs.Bits.{bits_of, bytes_of, number_of}
use Rattle.rz_bits.specs.declared.bit_view.BitView.{BitView}

-- so many bits from a place on
abbrev pub bits_at : List Bool → ℕ → ℕ → Option (List Bool)
bits_at all at count = if nat_le (at + count) (length all) then Some (take count (drop at all)) else None

-- the number that they write
abbrev pub number_at : List Bool → ℕ → ℕ → Option ℕ
number_at all at width = option_map number_of (bits_at all at width)

-- so many bytes from a place on
abbrev pub bytes_at : List Bool → ℕ → ℕ → Option (List ℕ)
bytes_at all at count = option_map bytes_of (bits_at all at (8 * count))

-- the bits that a view is over
abbrev pub seen : BitView → List Bool
seen view = bits_of view.bytes.now

-- the place of a view among them: how many bits are before it
abbrev pub place_of : BitView → ℕ
place_of view = view.place
