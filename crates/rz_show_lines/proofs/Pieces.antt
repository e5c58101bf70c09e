-- A text in pieces, one piece less.
use Rattle.std.proofs.Common.{◌≡◌, ℕ, zero, suc, ◌<◌, ◌≤◌, Bool, true, false, List, [], ◌∷◌, ◌++◌, length, refl, sym, ap, ◌∙◌, arith}
use Rattle.std.proofs.lemmas.List.{append-nil}
use Rattle.rz_show_lines.specs.Print.{margin, piece_lines, piece_written, text_lines}
use Rattle.rz_show_lines.specs.Pieces.{in_front, in_pieces, new_piece, piece_size, text_pieces, Pieces}
use Rattle.rz_show_lines.specs.Written.{Written}

abbrev fronts : List ℕ → Pieces → Pieces
fronts [] p = p
fronts (x ∷ xs) p = in_front x (fronts xs p)

text_fronts : (size : ℕ) (xs ys : List ℕ) → in_pieces size (length xs) (xs ++ ys) ≡ fronts xs (in_pieces size 0 ys)
text_fronts size [] ys = refl
text_fronts size (x ∷ xs) ys = ap (in_front x) (text_fronts size xs ys)

fronts_are : (xs : List ℕ) (p : Pieces) → fronts xs p ≡ record { first = xs ++ p.first; others = p.others }
fronts_are [] p = refl
fronts_are (x ∷ xs) p = ap (in_front x) (fronts_are xs p)

-- a text that fits one piece
short_is : (size room : ℕ) (xs : List ℕ) → length xs ≤ room → in_pieces size room xs ≡ record { first = xs; others = [] }
short_is size room [] fits = refl
short_is size zero (x ∷ xs) fits = absurd (omega (arith, fits))
short_is size (suc room) (x ∷ xs) fits = ap (in_front x) (short_is size room xs (omega (arith, fits)))

opened : (hex : Bool) (y : ℕ) (ys : List ℕ) → in_pieces (piece_size hex) 0 (y ∷ ys) ≡ new_piece (text_pieces hex (y ∷ ys))
opened true y ys = refl
opened false y ys = refl

-- a text of which a whole piece stands in front
long_is : (hex : Bool) (piece ys : List ℕ) (y : ℕ) → length piece ≡ piece_size hex
    → text_pieces hex (piece ++ y ∷ ys) ≡ record { first = piece; others = (text_pieces hex (y ∷ ys)).first ∷ (text_pieces hex (y ∷ ys)).others }
long_is hex piece ys y long =
    ap (λ (k : ℕ). in_pieces (piece_size hex) k (piece ++ y ∷ ys)) (sym long) ∙ text_fronts (piece_size hex) piece (y ∷ ys)
    ∙ ap (fronts piece) (opened hex y ys)
    ∙ fronts_are piece (new_piece (text_pieces hex (y ∷ ys)))
    ∙ ap (λ (x : List ℕ). record { first = x; others = (text_pieces hex (y ∷ ys)).first ∷ (text_pieces hex (y ∷ ys)).others }) (append-nil piece)

abbrev lines_of : (depth : ℕ) → (behind : List Written) → (hex : Bool) → Pieces → List (List Written)
lines_of depth behind hex p = piece_lines depth behind hex p.first p.others

pub last_piece : (depth : ℕ) (behind : List Written) (hex : Bool) (bytes : List ℕ) → length bytes ≤ piece_size hex
    → text_lines depth behind hex bytes ≡ (margin depth ++ piece_written hex bytes ∷ behind) ∷ []
last_piece depth behind hex bytes fits = ap (lines_of depth behind hex) (short_is (piece_size hex) (piece_size hex) bytes fits)

pub first_piece : (depth : ℕ) (behind : List Written) (hex : Bool) (bytes piece others : List ℕ) → bytes ≡ piece ++ others → length piece ≡ piece_size hex → 0 < length others
    → text_lines depth behind hex bytes ≡ (margin depth ++ piece_written hex piece ∷ []) ∷ text_lines depth behind hex others
first_piece depth behind hex bytes piece [] is long some = absurd (omega (arith, some))
first_piece depth behind hex bytes piece (y ∷ ys) is long some =
    ap (text_lines depth behind hex) is ∙ ap (lines_of depth behind hex) (long_is hex piece ys y long)
