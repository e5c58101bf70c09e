-- Bits, as the numbers and the bytes that they write. The first bit is the most significant one. (Inside Macintosh:
-- More Macintosh Toolbox, Resource Manager; MPW Rez.)
use Rattle.std.specs.Prelude.{ℕ, zero, suc, ◌+◌, ◌*◌, ◌/◌, ◌%◌, ◌^◌, ◌==◌, Bool, true, false, List, [], ◌∷◌, ◌++◌, length, take, drop}

-- Numbers.

-- the binary digit of a number that is worth 2 to the power
abbrev pub bit : ℕ → ℕ → Bool
bit number power = ((number / 2 ^ power) % 2) == 1

-- the last binary digits of a number, so many
unfoldable pub number_bits : ℕ → ℕ → List Bool
number_bits zero number = []
number_bits (suc width) number = bit number width ∷ number_bits width number

-- a bit as a number
abbrev pub digit : Bool → ℕ
digit true = 1
digit false = 0

-- the number that bits write
abbrev pub number_of : List Bool → ℕ
number_of [] = 0
number_of (b ∷ bits) = digit b * 2 ^ length bits + number_of bits

-- Bytes.

-- the bits of bytes, eight a byte
abbrev pub bits_of : List ℕ → List Bool
bits_of [] = []
bits_of (byte ∷ bytes) = number_bits 8 byte ++ bits_of bytes

-- so many bytes of the front of bits
abbrev pub front_bytes : ℕ → List Bool → List ℕ
front_bytes zero bits = []
front_bytes (suc count) bits = number_of (take 8 bits) ∷ front_bytes count (drop 8 bits)

-- all whole bytes of bits
abbrev pub bytes_of : List Bool → List ℕ
bytes_of bits = front_bytes (length bits / 8) bits
