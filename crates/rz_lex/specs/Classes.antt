-- Kinds of bytes in a line. (MPW Rez.)
use Rattle.std.specs.Prelude.{◌≡◌, ℕ, Bool, true, ◌||◌, ◌&&◌, nat_le, ◌==◌, List}
use Rattle.std.specs.List.{AllByRecursion}

-- a blank: 20, 09, 0B or 0C
abbrev pub is_blank : ℕ → Bool
is_blank byte = byte == 32 || byte == 9 || byte == 11 || byte == 12

-- blanks and nothing else
abbrev pub AreBlanks : List ℕ → Type 0
AreBlanks bytes = AllByRecursion (λ byte. is_blank byte ≡ true) bytes

-- a decimal digit
abbrev pub is_digit : ℕ → Bool
is_digit byte = nat_le 48 byte && nat_le byte 57

-- a letter, in either case
abbrev pub is_letter : ℕ → Bool
is_letter byte = (nat_le 97 byte && nat_le byte 122) || (nat_le 65 byte && nat_le byte 90)

-- a hex digit, in either case
abbrev pub is_hex_digit : ℕ → Bool
is_hex_digit byte = is_digit byte || (nat_le 97 byte && nat_le byte 102) || (nat_le 65 byte && nat_le byte 70)

-- a letter, `_` or a digit
abbrev pub is_word_byte : ℕ → Bool
is_word_byte byte = is_letter byte || byte == 95 || is_digit byte

-- `"` or `'`
abbrev pub is_quote : ℕ → Bool
is_quote byte = byte == 34 || byte == 39
