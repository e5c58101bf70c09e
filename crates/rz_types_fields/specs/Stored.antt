-- How values are stored: numbers in two's complement, texts with their length or a zero byte. (MPW Rez.)
use Rattle.std.specs.Prelude.{ℕ, ◌-◌, ◌/◌, ◌%◌, ◌^◌, ℤ, nat_lt, List, [], ◌∷◌, ◌++◌, length, take, replicate, Bool, false, Option, Some, None}
use Rattle.std.specs.Int.{cast_unsigned, w32}
use Rattle.rz_types_fields.specs.declared.field.TextForm.{TextForm}
use Rattle.rz_types_fields.specs.declared.field.TextForm.TheVariants.{Open, Pascal, WordLong, Zero}

-- Numbers.

-- the number from 0 to below 2 to the power of the width that stands for a value: the last digits of its two's complement
abbrev pub stored_number : ℕ → ℤ → ℕ
stored_number width value = cast_unsigned w32 value % 2 ^ width

-- Texts.

-- bytes cut to a size, or filled with zero bytes to it
abbrev pub sized : ℕ → List ℕ → List ℕ
sized size bytes = take size bytes ++ replicate (size - length bytes) 0

-- as many bytes as a text has, or as its size leaves of it
abbrev pub in_size : Option ℕ → List ℕ → List ℕ
in_size None bytes = bytes
in_size (Some size) bytes = take size bytes

abbrev pub to_size : Option ℕ → List ℕ → List ℕ
to_size None bytes = bytes
to_size (Some size) bytes = sized size bytes

-- a zero byte stands at the end, and counts to the size
abbrev pub before_zero : Option ℕ → Option ℕ
before_zero None = None
before_zero (Some size) = Some (size - 1)

-- a number as two bytes, the high one first
abbrev pub two_bytes : ℕ → List ℕ
two_bytes number = number / 256 ∷ number % 256 ∷ []

-- a `string` is its bytes; a `pstring` has a byte with their number before them, a `wstring` 16 bits; a `cstring` has a
-- zero byte after them. A size cuts or fills the bytes, of a `cstring` with that zero byte, and the number is that of the
-- bytes that are left.
abbrev pub stored_text : TextForm → Option ℕ → List ℕ → List ℕ
stored_text Open size bytes = to_size size bytes
stored_text Pascal size bytes = length (in_size size bytes) ∷ to_size size bytes
stored_text WordLong size bytes = two_bytes (length (in_size size bytes)) ++ to_size size bytes
stored_text Zero size bytes = to_size (before_zero size) bytes ++ 0 ∷ []

-- the most bytes that a text without a size has; a `string` and a `cstring` have no limit of their own
abbrev pub longest : TextForm → Option ℕ
longest Open = None
longest Pascal = Some 255
longest WordLong = Some 65535
longest Zero = None

abbrev pub is_over : Option ℕ → ℕ → Bool
is_over None count = false
is_over (Some most) count = nat_lt most count

-- the text is too long: it has no size, and more bytes than its length can say
abbrev pub is_too_long : TextForm → Option ℕ → ℕ → Bool
is_too_long form None count = is_over (longest form) count
is_too_long form (Some size) count = false
