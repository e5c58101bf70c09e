-- Tokens as they are written on a line, and what stands between them. (As MPW DeRez shows them.)
use Rattle.std.specs.Prelude.{◌≡◌, ℕ, zero, suc, ◌/◌, ◌%◌, ◌^◌, ◌<◌, ◌≤◌, Bool, true, false, ◌&&◌, ◌==◌, not, if◌then◌else◌, List, [], ◌∷◌, ◌++◌, length}
use Rattle.rz_core.specs.Decimal.{decimal_of}
use Rattle.rz_core.specs.Lists.{each_with_front}
use Rattle.rz_core.specs.Quoted.{hex_byte, quoted}
use Rattle.rz_lex.specs.Printed.{is_word, word_of, AreBytes}
use Rattle.rz_lex.specs.Sign.{sign_text}
use Rattle.rz_lex.specs.Spelled.{digits_of}
use Rattle.rz_lex.specs.declared.sign.Sign.{Sign}
use Rattle.rz_lex.specs.declared.sign.Sign.TheVariants as signs
use Rattle.rz_lex.specs.declared.token.Shape.{Shape}
use Rattle.rz_lex.specs.declared.token.Shape.TheVariants as shapes

pub data Written : Type 0 where
  a_word : (bytes : List ℕ) → Written
  a_number : (number : ℕ) → Written  -- in decimal
  a_hex : (digits number : ℕ) → Written  -- `0x` and so many hex digits
  an_octal : (number : ℕ) → Written  -- `0` and octal digits
  a_binary : (digits number : ℕ) → Written  -- `0B` and so many binary digits
  a_hex_byte : (byte : ℕ) → Written  -- `$` and two hex digits
  a_literal : (bytes : List ℕ) → Written
  a_text : (bytes : List ℕ) → Written
  a_hex_text : (bytes : List ℕ) → Written  -- `$"`, hex digits and `"`
  a_sign : (sign : Sign) → Written
  a_blank : Written  -- no token

-- How they are written.

-- how many digits a number has in a base, where it has no more than so many; zero has none
abbrev pub digit_count : (most base number : ℕ) → ℕ
digit_count zero base number = 0
digit_count (suc most) base number = if number == 0 then 0 else suc (digit_count most base (number / base))

-- how many octal digits a number of 32 bits has
unfoldable pub octal_count : ℕ → ℕ
octal_count number = digit_count 11 8 number

-- what stands before the byte at this position: bytes stand in groups of two
abbrev pub group_gap : ℕ → List ℕ
group_gap position = if position == 0 then [] else if position % 2 == 0 then 32 ∷ [] else []

-- a byte in hexadecimal, after these
abbrev pub grouped_byte : List ℕ → ℕ → List ℕ
grouped_byte before byte = group_gap (length before) ++ hex_byte byte

-- bytes in hexadecimal, in groups of two with a blank between
abbrev pub in_groups : List ℕ → List ℕ
in_groups bytes = each_with_front grouped_byte bytes

abbrev pub written_text : Written → List ℕ
written_text (a_word bytes) = bytes
written_text (a_number number) = decimal_of number
written_text (a_hex digits number) = 48 ∷ 120 ∷ digits_of 16 digits number
written_text (an_octal number) = 48 ∷ digits_of 8 (octal_count number) number
written_text (a_binary digits number) = 48 ∷ 66 ∷ digits_of 2 digits number
written_text (a_hex_byte byte) = 36 ∷ hex_byte byte
written_text (a_literal bytes) = quoted 39 bytes
written_text (a_text bytes) = quoted 34 bytes
written_text (a_hex_text bytes) = 36 ∷ 34 ∷ (in_groups bytes ++ 34 ∷ [])
written_text (a_sign sign) = sign_text sign
written_text a_blank = 32 ∷ []

-- the tokens that are meant
abbrev pub written_shapes : Written → List Shape
written_shapes (a_word bytes) = word_of bytes ∷ []
written_shapes (a_number number) = shapes.Number number ∷ []
written_shapes (a_hex digits number) = shapes.Number number ∷ []
written_shapes (an_octal number) = shapes.Number number ∷ []
written_shapes (a_binary digits number) = shapes.Number number ∷ []
written_shapes (a_hex_byte byte) = shapes.Number byte ∷ []
written_shapes (a_literal bytes) = shapes.Literal bytes ∷ []
written_shapes (a_text bytes) = shapes.Text bytes ∷ []
written_shapes (a_hex_text bytes) = shapes.Text bytes ∷ []
written_shapes (a_sign sign) = shapes.Sign sign ∷ []
written_shapes a_blank = []

-- Lines.

-- the bytes of a line, and its tokens
abbrev pub line_text : List Written → List ℕ
line_text [] = []
line_text (one ∷ line) = written_text one ++ line_text line

abbrev pub line_shapes : List Written → List Shape
line_shapes [] = []
line_shapes (one ∷ line) = written_shapes one ++ line_shapes line

-- the bytes of a line with its line end
abbrev pub as_line : List Written → List ℕ
as_line line = line_text line ++ 10 ∷ []

-- the bytes of lines, each with its line end, and their tokens
abbrev pub lines_text : List (List Written) → List ℕ
lines_text [] = []
lines_text (line ∷ lines) = line_text line ++ 10 ∷ lines_text lines

abbrev pub lines_shapes : List (List Written) → List Shape
lines_shapes [] = []
lines_shapes (line ∷ lines) = line_shapes line ++ lines_shapes lines

-- What may be written.

-- a sign with which no longer sign begins, and no comment
abbrev pub is_bare : Sign → Bool
is_bare signs.OpenBrace = true
is_bare signs.CloseBrace = true
is_bare signs.OpenParen = true
is_bare signs.CloseParen = true
is_bare signs.Semicolon = true
is_bare signs.Comma = true
is_bare signs.Minus = true
is_bare sign = false

-- a name that is a word
abbrev pub IsName : List ℕ → Type 0
IsName name = (is_word name ≡ true) × (length name ≤ 255)

-- a token that is cut back as it is meant
abbrev pub IsWritten : Written → Type 0
IsWritten (a_word bytes) = IsName bytes
IsWritten (a_number number) = number < 2 ^ 32
IsWritten (a_hex digits number) = (0 < digits) × (digits ≤ 8) × (number < 16 ^ digits) × (number < 2 ^ 32)
IsWritten (an_octal number) = number < 2 ^ 32
IsWritten (a_binary digits number) = (0 < digits) × (digits ≤ 32) × (number < 2 ^ digits) × (number < 2 ^ 32)
IsWritten (a_hex_byte byte) = byte < 256
IsWritten (a_literal bytes) = AreBytes bytes × (0 < length bytes) × (length bytes ≤ 4)
IsWritten (a_text bytes) = AreBytes bytes
IsWritten (a_hex_text bytes) = AreBytes bytes
IsWritten (a_sign sign) = is_bare sign ≡ true
IsWritten a_blank = Unit {0}

-- it is no word of these, which are the live macros
abbrev pub IsSeen : (hidden : List ℕ → Bool) → Written → Type 0
IsSeen hidden (a_word bytes) = hidden bytes ≡ false
IsSeen hidden one = Unit {0}

abbrev pub IsPut : (hidden : List ℕ → Bool) → Written → Type 0
IsPut hidden one = IsWritten one × IsSeen hidden one

-- words and numbers, which would go on with each other
abbrev pub is_wordy : Written → Bool
is_wordy (a_word bytes) = true
is_wordy (a_number number) = true
is_wordy (a_hex digits number) = true
is_wordy (an_octal number) = true
is_wordy (a_binary digits number) = true
is_wordy (a_hex_byte byte) = true
is_wordy one = false

abbrev pub begins_wordy : List Written → Bool
begins_wordy [] = false
begins_wordy (one ∷ line) = is_wordy one

-- no two of them stand side by side
abbrev pub are_apart : List Written → Bool
are_apart [] = true
are_apart (one ∷ line) = not (is_wordy one && begins_wordy line) && are_apart line
