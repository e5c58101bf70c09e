-- The check of MacBinary and BinHex: the CRC of 16 bits with the polynomial x^16 + x^12 + x^5 + 1, the highest bit
-- first. (MacBinary II; RFC 1741.)
use Rattle.std.specs.Prelude.{ℕ, zero, suc, ◌*◌, nat_lt, if◌then◌else◌, List, fold}
use Rattle.std.specs.Int.Bits.{bit_xor}

-- one bit more: the number is doubled, and where it then has a 17th bit, the polynomial, 11021, is taken away
unfoldable pub bit_more : ℕ → ℕ
bit_more crc = if nat_lt crc 32768 then 2 * crc else bit_xor (2 * crc) 69665

-- so many bits more
abbrev pub bits_more : ℕ → ℕ → ℕ
bits_more zero crc = crc
bits_more (suc count) crc = bits_more count (bit_more crc)

-- one byte more: it goes to the high byte, and eight bits pass
unfoldable pub byte_more : ℕ → ℕ → ℕ
byte_more crc byte = bits_more 8 (bit_xor crc (256 * byte))

-- the check of the bytes after those whose check is `start`; the check of no bytes is 0
abbrev pub crc_of : ℕ → List ℕ → ℕ
crc_of start bytes = fold byte_more start bytes
