-- What `$$Format` gives of a text and arguments. (MPW Rez.)
use Rattle.std.specs.Prelude.{ℕ, suc, ℤ, pos, negsuc, nat_lt, ◌==◌, false, if◌then◌else◌, List, [], ◌∷◌, Option, Some, None, option_map}
use Rattle.std.specs.Fmt.{digits, ◌++?◌}
use Rattle.std.specs.Int.{cast_unsigned, w32}
use Rattle.std.specs.Option.{option_and_then}
use Rattle.rz_core.specs.Decimal.{decimal_of, signed_of}
use Rattle.rz_types_format.specs.declared.format.Argument.{Argument}
use Rattle.rz_types_format.specs.declared.format.Argument.TheVariants.{Number, Text}

-- Conversions.

-- a number modulo 2^32
abbrev pub unsigned_of : ℤ → ℕ
unsigned_of number = cast_unsigned w32 number

-- the byte of a number from 0 to 255
abbrev pub byte_of : ℤ → Option (List ℕ)
byte_of (pos number) = if nat_lt number 256 then Some (number ∷ []) else None
byte_of (negsuc number) = None

-- what a conversion makes of a number, by its letter: `d`, `u`, `x`, `o` or `c`
abbrev pub number_converted : ℕ → ℤ → Option (List ℕ)
number_converted letter number =
    if letter == 100 then Some (signed_of number)
    else if letter == 117 then Some (decimal_of (unsigned_of number))
    else if letter == 120 then Some (digits 16 false (unsigned_of number))
    else if letter == 111 then Some (digits 8 false (unsigned_of number))
    else if letter == 99 then byte_of number
    else None

-- what a conversion makes of an argument: a text is what `s` takes
abbrev pub converted : ℕ → Argument → Option (List ℕ)
converted letter (Number number) = number_converted letter number
converted letter (Text bytes) = if letter == 115 then Some bytes else None

-- The text.

-- what a format's text is made of
pub data Piece : Type 0 where
  Copied : (byte : ℕ) → Piece  -- a byte that is given as it is
  Conversion : (letter : ℕ) → Piece  -- a percent sign and a letter, which stand for an argument

-- what a percent sign and the byte after it are: two percent signs are one
abbrev pub behind_percent : ℕ → Piece
behind_percent letter = if letter == 37 then Copied 37 else Conversion letter

abbrev pub with_piece : Piece → Option (List Piece) → Option (List Piece)
with_piece piece pieces = option_map (λ pieces. piece ∷ pieces) pieces

-- the pieces of a text; none where a percent sign stands at its end
abbrev pub pieces_of : List ℕ → Option (List Piece)
pieces_of [] = Some []
pieces_of (byte ∷ []) = if byte == 37 then None else Some (Copied byte ∷ [])
pieces_of (byte ∷ next ∷ rest) =
    if byte == 37 then with_piece (behind_percent next) (pieces_of rest) else with_piece (Copied byte) (pieces_of (next ∷ rest))

-- how many of the pieces stand for an argument
abbrev pub conversions : List Piece → ℕ
conversions [] = 0
conversions (Copied byte ∷ pieces) = conversions pieces
conversions (Conversion letter ∷ pieces) = suc (conversions pieces)

-- the bytes that pieces give with arguments, one for each conversion
abbrev pub filled : List Piece → List Argument → Option (List ℕ)
filled [] [] = Some []
filled [] (argument ∷ arguments) = None
filled (Copied byte ∷ pieces) arguments = Some (byte ∷ []) ++? filled pieces arguments
filled (Conversion letter ∷ pieces) [] = None
filled (Conversion letter ∷ pieces) (argument ∷ arguments) = converted letter argument ++? filled pieces arguments

-- what a format's text gives with these arguments
abbrev pub formatted : List ℕ → List Argument → Option (List ℕ)
formatted text arguments = option_and_then (λ pieces. filled pieces arguments) (pieces_of text)
