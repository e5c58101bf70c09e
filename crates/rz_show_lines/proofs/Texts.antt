-- The pieces of a text, one after the other, are its bytes.
use Rattle.std.proofs.Common.{◌≡◌, ℕ, zero, suc, ◌-◌, List, [], ◌∷◌, refl, ap, arith}
use Rattle.std.specs.List.{flat_map, AllByRecursion}
use Rattle.rz_core.specs.Numbers.{be}
use Rattle.rz_lex.specs.Printed.{AreBytes}
use Rattle.rz_show_lines.specs.Pieces.{in_pieces, Pieces}

abbrev pub all_pieces : Pieces → List (List ℕ)
all_pieces cut = cut.first ∷ cut.others

pub pieces_join : (size room : ℕ) (bytes : List ℕ) → flat_map (λ piece. piece) (all_pieces (in_pieces size room bytes)) ≡ bytes
pieces_join size room [] = refl
pieces_join size (suc room) (b ∷ bytes) = ap (λ (x : List ℕ). b ∷ x) (pieces_join size room bytes)
pieces_join size zero (b ∷ bytes) = ap (λ (x : List ℕ). b ∷ x) (pieces_join size (size - 1) bytes)

pub pieces_small : (size room : ℕ) (bytes : List ℕ) → AreBytes bytes → AllByRecursion AreBytes (all_pieces (in_pieces size room bytes))
pieces_small size room [] small = (tt, tt)
pieces_small size (suc room) (b ∷ bytes) small = let t = pieces_small size room bytes small.1 in ((small.0, t.0), t.1)
pieces_small size zero (b ∷ bytes) small = let t = pieces_small size (size - 1) bytes small.1 in (tt, ((small.0, t.0), t.1))

-- a number of four bytes, as a type is
pub four_bytes : (n : ℕ) → AreBytes (be 4 n)
unfolding be
four_bytes n = (omega arith, (omega arith, (omega arith, (omega arith, tt))))
