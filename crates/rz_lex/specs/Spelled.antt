-- Numbers and bytes in digits, as they are written. (MPW Rez.)
use Rattle.std.specs.Prelude.{◌≡◌, ℕ, zero, suc, ◌/◌, ◌%◌, List, [], ◌∷◌, ◌++◌}
use Rattle.rz_core.specs.Quoted.{hex_byte, hex_digit}
use Rattle.rz_lex.specs.Classes.{AreBlanks}

-- the lowest so many digits of a number, the highest of them first
abbrev pub digits_of : ℕ → ℕ → ℕ → List ℕ
digits_of base zero number = []
digits_of base (suc count) number = digits_of base count (number / base) ++ hex_digit (number % base) ∷ []

-- each byte as two hex digits, with any blanks before each byte and after the last
abbrev pub SpellsBytes : List ℕ → List ℕ → Type 0
SpellsBytes text [] = AreBlanks text
SpellsBytes text (byte ∷ bytes) = (gap : List ℕ) × (rest : List ℕ) × AreBlanks gap × (text ≡ gap ++ (hex_byte byte ++ rest)) × SpellsBytes rest bytes
