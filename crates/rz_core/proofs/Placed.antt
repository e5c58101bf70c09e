-- Pieces that stand at a place of some bytes, and what is read of them.
use Rattle.std.proofs.Common.{◌≡◌, ℕ, ◌+◌, ◌%◌, ◌^◌, ◌<◌, ◌≤◌, List, [], ◌∷◌, ◌++◌, length, take, drop, get_or, refl, sym, ap, subst, ◌∙◌, arith, append_assoc, length-append, ℤ, pos, negsuc, FitsSigned}
use Rattle.std.proofs.lemmas.List.{append-nil, drop-drop, drop_at, take_at, length-drop, get_or-drop}
use Rattle.std.specs.Int.{cast_unsigned, w16}
use Rattle.byteorder.specs.Endian.{big_number}
use Rattle.byteorder.specs.Numbers.{big_from-bytes, big_from-lt, big_number-reads_back}
use Rattle.rz_core.specs.Numbers.{be, number}

-- the piece stands at the place
pub record Has (bytes : List ℕ) (place : ℕ) (piece : List ℕ) : Type 0 where
  pub rest : List ℕ
  pub is : drop place bytes ≡ piece ++ rest

pub has_all : (bytes : List ℕ) → Has bytes 0 bytes
has_all bytes = record { rest = []; is = sym (append-nil bytes) }

pub has_left : (bytes : List ℕ) (place : ℕ) (left right : List ℕ) → Has bytes place (left ++ right) → Has bytes place left
has_left bytes place left right has = record { rest = right ++ has.rest; is = has.is ∙ append_assoc left right has.rest }

pub has_right : (bytes : List ℕ) (place next : ℕ) (left right : List ℕ) → next ≡ place + length left → Has bytes place (left ++ right) → Has bytes next right
has_right bytes place next left right at has = record {
  rest = has.rest;
  is =
      ap (λ (n : ℕ). drop n bytes) at ∙ sym (drop-drop (length left) place bytes)
      ∙ ap (drop (length left)) (has.is ∙ append_assoc left right has.rest) ∙ drop_at left (right ++ has.rest) (length left) refl;
}

pub has_at : (bytes : List ℕ) (place other : ℕ) (piece : List ℕ) → place ≡ other → Has bytes place piece → Has bytes other piece
has_at bytes place other piece same has = subst (λ (n : ℕ). Has bytes n piece) same has

-- a piece ends within the bytes
pub has_within : (bytes : List ℕ) (place : ℕ) (piece : List ℕ) → 0 < length piece → Has bytes place piece → place + length piece ≤ length bytes
has_within bytes place piece more has =
    let size = ap length has.is ∙ length-append piece has.rest in
    omega (arith, size, length-drop place bytes)

-- what is read of a piece: itself, a number, a byte
pub piece_is : (bytes : List ℕ) (place : ℕ) (piece : List ℕ) → Has bytes place piece → take (length piece) (drop place bytes) ≡ piece
piece_is bytes place piece has = ap (take (length piece)) has.is ∙ take_at piece has.rest (length piece) refl

pub number_mod : (bytes : List ℕ) (count place value : ℕ) → Has bytes place (be count value) → number count bytes place ≡ value % 256 ^ count
unfolding number be
number_mod bytes count place value has = ap (big_number count) has.is ∙ big_from-bytes count value has.rest

pub number_is : (bytes : List ℕ) (count place value : ℕ) → Has bytes place (be count value) → value < 256 ^ count → number count bytes place ≡ value
unfolding number be
number_is bytes count place value has small = ap (big_number count) has.is ∙ big_number-reads_back count value has.rest small

pub byte_is : (bytes : List ℕ) (place value : ℕ) {later : List ℕ} → Has bytes place (value ∷ later) → number 1 bytes place ≡ value
unfolding number
byte_is bytes place value has = ap (big_number 1) has.is ∙ omega arith

-- a number of bytes is in the range of so many bytes
pub number_fits : (count : ℕ) (bytes : List ℕ) (place : ℕ) → ((i : ℕ) → get_or bytes i 0 < 256) → number count bytes place < 256 ^ count
unfolding number
number_fits count bytes place small = big_from-lt 0 count (drop place bytes) (λ k. subst (λ (x : ℕ). x < 256) (sym (get_or-drop place bytes k 0)) (small (place + k)))

-- the bits of a signed number of 16 bits
pub bits_small : (z : ℤ) → FitsSigned w16 z → cast_unsigned w16 z < 2 ^ 16
bits_small (pos n) fits = let small : n < 2 ^ 15 = fits.sfits in omega arith
bits_small (negsuc n) fits = omega arith
