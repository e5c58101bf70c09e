-- The letters of BinHex: each stands for six bits, the highest first. (RFC 1741.)
use Rattle.std.specs.Prelude.{ℕ, ◌+◌, ◌*◌, ◌/◌, ◌%◌, ◌==◌, List, [], ◌∷◌, get_or, codes, position, Option}

-- the letters of 0 to 63
abbrev pub alphabet : List ℕ
alphabet = codes "!\"#$%&'()*+,-012345689@ABCDEFGHIJKLMNPQRSTUVXYZ[`abcdefhijklmpqr"

-- the letter of a number below 64
abbrev pub letter : ℕ → ℕ
letter number = get_or alphabet number 0

-- the number of a letter
abbrev pub number_of : ℕ → Option ℕ
number_of letter = position (λ l. l == letter) alphabet

-- bytes in sixes of bits, three bytes as four numbers; the last bits are filled with zeros
abbrev pub sixes : List ℕ → List ℕ
sixes [] = []
sixes (a ∷ []) = (a / 4) ∷ (a % 4 * 16) ∷ []
sixes (a ∷ b ∷ []) = (a / 4) ∷ (a % 4 * 16 + b / 16) ∷ (b % 16 * 4) ∷ []
sixes (a ∷ b ∷ c ∷ rest) = (a / 4) ∷ (a % 4 * 16 + b / 16) ∷ (b % 16 * 4 + c / 64) ∷ (c % 64) ∷ sixes rest

-- and back; fewer than eight bits at the end are dropped
abbrev pub eights : List ℕ → List ℕ
eights [] = []
eights (p ∷ []) = []
eights (p ∷ q ∷ []) = (p * 4 + q / 16) ∷ []
eights (p ∷ q ∷ r ∷ []) = (p * 4 + q / 16) ∷ (q % 16 * 16 + r / 4) ∷ []
eights (p ∷ q ∷ r ∷ s ∷ rest) = (p * 4 + q / 16) ∷ (q % 16 * 16 + r / 4) ∷ (r % 4 * 64 + s) ∷ eights rest
