-- The shape of a lexeme, or its fault. (MPW Rez.)
use Rattle.std.specs.Prelude.{ℕ, pos, ◌-◌, ◌+◌, Bool, false, ◌&&◌, ◌||◌, ◌==◌, nat_lt, nat_le, if◌then◌else◌, List, [], ◌∷◌, length, take, drop, Option, Some, None, Result, Ok, Err}
use Rattle.rz_core.specs.declared.fault.Mark.{Mark}
use Rattle.rz_core.specs.declared.fault.Fault.{Fault}
use Rattle.rz_core.specs.declared.fault.Kept.{Kept}
use Rattle.rz_core.specs.declared.fault.Kept.TheVariants.{Nothing, Number, Name}
use Rattle.rz_lex.specs.Classes.{is_digit, is_word_byte}
use Rattle.rz_lex.specs.Sign.{sign_of}
use Rattle.rz_lex.specs.Digits.{number_value}
use Rattle.rz_lex.specs.Escape.{text_value}
use Rattle.rz_lex.specs.Hex.{hex_value}
use Rattle.rz_lex.specs.declared.sign.Sign.{Sign}
use Rattle.rz_lex.specs.declared.token.Shape.{Shape}
use Rattle.rz_lex.specs.declared.token.Shape.TheVariants as shapes

-- a fault at this place
abbrev pub fault_at : Mark → ℕ → Kept → Fault
fault_at mark number kept = record { number = number; mark = Some mark; kept = kept }

-- a fault that keeps the bytes of its token as they are written, at most 255
abbrev pub spelled_fault : Mark → ℕ → List ℕ → Fault
spelled_fault mark number bytes = fault_at mark number (Name (take 255 bytes))

-- a word or a number may have 255 bytes
abbrev pub is_long : List ℕ → Bool
is_long bytes = nat_lt 255 (length bytes)

-- 115, with the length
abbrev pub long_fault : Mark → List ℕ → Fault
long_fault mark bytes = fault_at mark 115 (Number (pos (length bytes)))

-- a word is itself
abbrev pub word_shape : Mark → List ℕ → Result Shape Fault
word_shape mark bytes =
    if is_long bytes then Err (long_fault mark bytes) else Ok (shapes.Word (record { bytes = bytes }))

-- 110 where a number has no value
abbrev pub valued_shape : Mark → List ℕ → Option ℕ → Result Shape Fault
valued_shape mark bytes (Some value) = Ok (shapes.Number value)
valued_shape mark bytes None = Err (spelled_fault mark 110 bytes)

-- a number is its value
abbrev pub number_shape : Mark → List ℕ → Result Shape Fault
number_shape mark bytes =
    if is_long bytes then Err (long_fault mark bytes) else valued_shape mark bytes (number_value bytes)

-- a literal is one to four bytes: 109 for a wrong escape, 110 for none or more than four
abbrev pub literal_shape : Mark → List ℕ → Option (List ℕ) → Result Shape Fault
literal_shape mark bytes None = Err (spelled_fault mark 109 bytes)
literal_shape mark bytes (Some value) =
    if nat_lt 0 (length value) && nat_le (length value) 4
    then Ok (shapes.Literal value)
    else Err (spelled_fault mark 110 bytes)

-- a text is any bytes: 109 for a wrong escape
abbrev pub text_shape : Mark → List ℕ → Option (List ℕ) → Result Shape Fault
text_shape mark bytes None = Err (spelled_fault mark 109 bytes)
text_shape mark bytes (Some value) = Ok (shapes.Text value)

-- a hex text is any bytes: 113 where they have another form
abbrev pub hex_shape : Mark → Option (List ℕ) → Result Shape Fault
hex_shape mark None = Err (fault_at mark 113 Nothing)
hex_shape mark (Some value) = Ok (shapes.Text value)

-- the bytes after the first so many and before the last one
abbrev pub inside : ℕ → List ℕ → List ℕ
inside front bytes = take (length bytes - (front + 1)) (drop front bytes)

-- a lexeme that begins with `$`: a hex text after `"`, a word after a second `$`, else a number
abbrev pub dollar_shape : Mark → List ℕ → List ℕ → Result Shape Fault
dollar_shape mark bytes [] = word_shape mark bytes
dollar_shape mark bytes (b ∷ bs) =
    if b == 34 then hex_shape mark (hex_value (inside 2 bytes))
    else if b == 36 then word_shape mark bytes
    else number_shape mark bytes

-- a sign, or 111 with the first byte
abbrev pub sign_shape : Mark → ℕ → Option Sign → Result Shape Fault
sign_shape mark first (Some sign) = Ok (shapes.Sign sign)
sign_shape mark first None = Err (fault_at mark 111 (Number (pos first)))

-- the shape of a lexeme, or the fault that it has
abbrev pub shape_of : Mark → List ℕ → Result Shape Fault
shape_of mark [] = Err (fault_at mark 111 Nothing)
shape_of mark (b ∷ bs) =
    if is_digit b then number_shape mark (b ∷ bs)
    else if is_word_byte b then word_shape mark (b ∷ bs)
    else if b == 39 then literal_shape mark (b ∷ bs) (text_value 0 (inside 1 (b ∷ bs)))
    else if b == 34 then text_shape mark (b ∷ bs) (text_value 0 (inside 1 (b ∷ bs)))
    else if b == 36 then dollar_shape mark (b ∷ bs) bs
    else sign_shape mark b (sign_of (b ∷ bs))

-- this byte stands first
abbrev pub begins_with : ℕ → List ℕ → Bool
begins_with byte [] = false
begins_with byte (b ∷ bs) = b == byte

-- a literal or a text begins here
abbrev pub opens_quote : ℕ → List ℕ → Bool
opens_quote first behind = first == 34 || first == 39 || (first == 36 && begins_with 34 behind)

-- the fault where no front is a lexeme: 108 where a literal or a text begins, else 111 with the first byte
abbrev pub no_lexeme_fault : Mark → List ℕ → Fault
no_lexeme_fault mark [] = fault_at mark 111 Nothing
no_lexeme_fault mark (b ∷ bs) =
    if opens_quote b bs then fault_at mark 108 Nothing else fault_at mark 111 (Number (pos b))
