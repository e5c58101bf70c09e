-- Bytes as rezkit shows them, in texts and literals and in its messages. (The escapes are those of MPW Rez.)
use Rattle.std.specs.Prelude.{ℕ, ◌+◌, ◌-◌, ◌/◌, ◌%◌, nat_lt, ◌==◌, ◌||◌, if◌then◌else◌, List, [], ◌∷◌, ◌++◌}
use Rattle.std.specs.List.{flat_map}
use Rattle.rz_core.specs.Numbers.{be}

-- a hex digit, in upper case
abbrev pub hex_digit : ℕ → ℕ
hex_digit digit = if nat_lt digit 10 then 48 + digit else 65 + (digit - 10)

-- a byte as two hex digits
abbrev pub hex_byte : ℕ → List ℕ
hex_byte byte = hex_digit (byte / 16) ∷ hex_digit (byte % 16) ∷ []

-- a byte between these quote marks: by its number outside 20 to 7E; else as it is, with a backslash before the
-- quote mark and before a backslash
abbrev pub shown_byte : ℕ → ℕ → List ℕ
shown_byte quote byte =
    if nat_lt byte 32 || nat_lt 126 byte
    then 92 ∷ 48 ∷ 120 ∷ hex_byte byte
    else if (byte == quote) || (byte == 92)
    then 92 ∷ byte ∷ []
    else byte ∷ []

-- the bytes between two such quote marks
abbrev pub quoted : ℕ → List ℕ → List ℕ
quoted quote bytes = quote ∷ flat_map (shown_byte quote) bytes ++ quote ∷ []

-- a resource type as a literal
abbrev pub literal_text : ℕ → List ℕ
literal_text code = quoted 39 (be 4 code)
