-- What the bytes between quote marks stand for. (The escapes are those of MPW Rez.)
use Rattle.std.specs.Prelude.{ℕ, zero, suc, ◌+◌, ◌||◌, nat_le, nat_lt, ◌==◌, if◌then◌else◌, List, [], ◌∷◌, ◌++◌, length, take, Option, Some, None}
use Rattle.rz_lex.specs.Digits.{digits_value}

-- a value as one byte, where it is one, with the number of bytes that spell it
abbrev pub as_byte : ℕ → Option ℕ → Option (ℕ × ℕ)
as_byte size None = None
as_byte size (Some value) = if nat_lt value 256 then Some (value, size) else None

-- the byte that exactly so many digits spell, after some bytes that are passed
abbrev pub digits_escape : ℕ → ℕ → ℕ → List ℕ → Option (ℕ × ℕ)
digits_escape base passed count bs =
    if nat_le count (length bs) then as_byte (passed + count) (digits_value base (take count bs)) else None

-- after `\0`: the letter of a base and its digits, or two octal digits more
abbrev pub escape_behind_0 : List ℕ → Option (ℕ × ℕ)
escape_behind_0 [] = None
escape_behind_0 (b ∷ bs) =
    if b == 66 || b == 98 then digits_escape 2 2 8 bs
    else if b == 68 || b == 100 then digits_escape 10 2 3 bs
    else if b == 88 || b == 120 then digits_escape 16 2 2 bs
    else digits_escape 8 0 3 (48 ∷ b ∷ bs)

-- the byte that one letter or mark after a backslash stands for
abbrev pub letter_escape : ℕ → Option ℕ
letter_escape byte =
    if byte == 116 then Some 9
    else if byte == 98 then Some 8
    else if byte == 110 then Some 13
    else if byte == 114 then Some 10
    else if byte == 118 then Some 11
    else if byte == 102 then Some 12
    else if byte == 63 then Some 127
    else if byte == 92 || byte == 39 || byte == 34 then Some byte
    else None

-- the byte of a letter where there is one, and else of three octal digits
abbrev pub letter_or_octal : Option ℕ → List ℕ → Option (ℕ × ℕ)
letter_or_octal (Some byte) bs = Some (byte, 1)
letter_or_octal None bs = digits_escape 8 0 3 bs

-- the byte of the escape whose backslash stands before these bytes, and how many of them spell it
abbrev pub escape_at : List ℕ → Option (ℕ × ℕ)
escape_at [] = None
escape_at (b ∷ bs) =
    if b == 48 then escape_behind_0 bs
    else if b == 36 then digits_escape 16 1 2 bs
    else letter_or_octal (letter_escape b) (b ∷ bs)

-- bytes before those that follow, where those are right
abbrev pub before : List ℕ → Option (List ℕ) → Option (List ℕ)
before front None = None
before front (Some bs) = Some (front ++ bs)

-- the byte of an escape, and what is read after it
abbrev pub escape_then : Option (ℕ × ℕ) → (ℕ → Option (List ℕ)) → Option (List ℕ)
escape_then None more = None
escape_then (Some escape) more = before (escape.0 ∷ []) (more escape.1)

-- a byte that an escape has passed is nothing more; a backslash is its escape; any other byte is itself
abbrev pub byte_then : ℕ → ℕ → Option (ℕ × ℕ) → (ℕ → Option (List ℕ)) → Option (List ℕ)
byte_then zero b escape more = if b == 92 then escape_then escape more else before (b ∷ []) (more 0)
byte_then (suc passed) b escape more = more passed

-- what bytes between quote marks stand for, of which the first so many are passed; none where an escape is wrong
abbrev pub text_value : ℕ → List ℕ → Option (List ℕ)
text_value passed [] = Some []
text_value passed (b ∷ bs) = byte_then passed b (escape_at bs) (λ more. text_value more bs)
