-- Bytes in pieces, of which each stands on a line of its own.
use Rattle.std.specs.Prelude.{ℕ, zero, suc, ◌-◌, Bool, true, false, List, [], ◌∷◌}

-- bytes in pieces, at least one
pub record Pieces : Type 0 where
  pub first : List ℕ
  pub others : List (List ℕ)

abbrev pub in_front : ℕ → Pieces → Pieces
in_front byte cut = record { first = byte ∷ cut.first; others = cut.others }

abbrev pub new_piece : Pieces → Pieces
new_piece cut = record { first = []; others = cut.first ∷ cut.others }

-- pieces of this size, of which the first has room for so many
abbrev pub in_pieces : (size room : ℕ) → List ℕ → Pieces
in_pieces size room [] = record { first = []; others = [] }
in_pieces size (suc room) (byte ∷ bytes) = in_front byte (in_pieces size room bytes)
in_pieces size zero (byte ∷ bytes) = new_piece (in_front byte (in_pieces size (size - 1) bytes))

-- the bytes of a text that stand on one line: 64, or 16 in hexadecimal
abbrev pub piece_size : (hex : Bool) → ℕ
piece_size true = 16
piece_size false = 64

abbrev pub text_pieces : (hex : Bool) → List ℕ → Pieces
text_pieces hex bytes = in_pieces (piece_size hex) (piece_size hex) bytes
