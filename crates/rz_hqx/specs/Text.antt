-- The text of BinHex: a line that says what it is, and letters between two colons. (RFC 1741.)
use Rattle.std.specs.Prelude.{ℕ, ◌+◌, ◌%◌, ◌==◌, ◌&&◌, ◌||◌, not, Bool, if◌then◌else◌, List, [], ◌∷◌, ◌++◌, length, map, codes, nat_eq, Option, Some, None, option_map}
use Rattle.std.specs.List.{before_first, enumerate_from, filter_map, find, list_any, starts_with}
use Rattle.std.specs.Option.{is_some, ok_or, option_map_or}
use Rattle.std.specs.declared.result.Result.{Result}
use Rattle.rz_core.specs.Lists.{or_else, unless_fault}
use Rattle.rz_bridge.specs.Faults.{broken, fault}
use Rattle.rz_bridge.specs.declared.fault.BridgeFault.{BridgeFault}
use Rattle.rz_hqx.specs.Letters.{letter, number_of, sixes}

-- Read.

-- how the line begins
abbrev pub head : List ℕ
head = codes "(This file must be converted with BinHex"

-- a byte that ends a line
abbrev pub is_line_end : ℕ → Bool
is_line_end byte = (byte == 10) || (byte == 13)

-- a byte that stands between letters and says nothing
abbrev pub is_blank : ℕ → Bool
is_blank byte = (byte == 32) || (byte == 9) || is_line_end byte

-- the bytes after the end of the line
abbrev pub behind_line : List ℕ → List ℕ
behind_line [] = []
behind_line (b ∷ bs) = if is_line_end b then bs else behind_line bs

-- the bytes after each line end, from there to the last
abbrev pub later_lines : List ℕ → List (List ℕ)
later_lines [] = []
later_lines (b ∷ bs) = if is_line_end b then bs ∷ later_lines bs else later_lines bs

-- a line begins so
abbrev pub is_head : List ℕ → Bool
is_head line = starts_with nat_eq line head

-- the bytes after the first line that begins so; none where there is no such line
unfoldable pub behind_head : List ℕ → List ℕ
behind_head text = option_map_or behind_line (find is_head (text ∷ later_lines text)) []

-- the bytes after a colon that stands after blanks alone
abbrev pub behind_colon : List ℕ → Option (List ℕ)
behind_colon [] = None
behind_colon (b ∷ bs) = if b == 58 then Some bs else if is_blank b then behind_colon bs else None

-- NoStart: there is no such line, or no colon after it
abbrev pub no_start : BridgeFault
no_start = fault 441 0 0

-- the bytes after the first colon, or that there is none
abbrev pub body_of : List ℕ → Result (List ℕ) BridgeFault
body_of bytes = ok_or (behind_colon (behind_head bytes)) no_start

-- a byte that is neither a letter nor a blank
abbrev pub is_stray : ℕ → Bool
is_stray byte = not (is_blank byte || is_some (number_of byte))

-- BadLetter: such a byte is among these, the first of which stands at a place
abbrev pub bad_letter : ℕ → List ℕ → Option BridgeFault
bad_letter place bytes = option_map (λ one. fault 442 one.0 one.1) (find (λ one. is_stray one.1) (enumerate_from place bytes))

-- NoEnd: no colon is among them
abbrev pub no_end : ℕ → List ℕ → Option BridgeFault
no_end place bytes = broken (not (list_any (λ b. b == 58) bytes)) (fault 443 (place + length bytes) (place + length bytes))

-- the numbers of the letters before the first colon, or the first fault, in bytes from a place on
unfoldable pub numbers_in : ℕ → List ℕ → Result (List ℕ) BridgeFault
numbers_in place body =
    let letters = before_first (λ b. b == 58) body in
    unless_fault (or_else (bad_letter place letters) (no_end place body)) (filter_map number_of letters)

-- Written.

-- a line end before each 64 characters but the first
abbrev pub gap_at : ℕ → List ℕ
gap_at count = if not (count == 0) && (count % 64 == 0) then 10 ∷ [] else []

-- characters in their lines, the first of them after so many
abbrev pub in_lines : ℕ → List ℕ → List ℕ
in_lines count [] = []
in_lines count (char ∷ chars) = gap_at count ++ char ∷ in_lines (count + 1) chars

-- the first line
abbrev pub head_line : List ℕ
head_line = codes "(This file must be converted with BinHex 4.0)\n"

-- the text of numbers: the first line, and the letters between two colons
abbrev pub lines_of : List ℕ → List ℕ
lines_of numbers = head_line ++ in_lines 0 (58 ∷ map letter numbers ++ 58 ∷ []) ++ 10 ∷ []

-- the text of bytes
abbrev pub text_of : List ℕ → List ℕ
text_of bytes = lines_of (sixes bytes)
