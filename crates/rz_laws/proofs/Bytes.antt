-- Lists of bytes, and numbers that are read of them.
use Rattle.std.proofs.Common.{◌≡◌, ℕ, zero, suc, ◌+◌, ◌%◌, ◌^◌, ◌<◌, FitsSigned, ◌+ℤ◌, List, [], ◌∷◌, ◌++◌, take, drop, get_or, replicate, sym, ap, subst, ◌∙◌, arith}
use Rattle.std.proofs.lemmas.Int.{wrapping_add-bits, SFits-int_wrap}
use Rattle.std.specs.Int.{byte_at, cast_signed, w16}
use Rattle.std.specs.List.{flat_map, AllByRecursion}
use Rattle.rz_bridge.specs.Places.{piece, signed}
use Rattle.rz_laws.specs.Kept.{AreBytes}
use Rattle.rz_core.proofs.Lists.{all_append}
use Rattle.rz_core.proofs.Placed.{number_fits}
use Rattle.rz_core.specs.Numbers.{be, number}

abbrev IsByte : ℕ → Type 0
IsByte b = b < 256

-- Lists.

pub together : (xs ys : List ℕ) → AreBytes xs → AreBytes ys → AreBytes (xs ++ ys)
together xs ys = all_append IsByte xs ys

pub each_byte : (bytes : List ℕ) → AreBytes bytes → (i : ℕ) → get_or bytes i 0 < 256
each_byte [] small i = omega arith
each_byte (b ∷ bs) small zero = small.0
each_byte (b ∷ bs) small (suc i) = each_byte bs small.1 i

pub front_bytes : (n : ℕ) (bytes : List ℕ) → AreBytes bytes → AreBytes (take n bytes)
front_bytes zero bytes small = tt
front_bytes (suc n) [] small = tt
front_bytes (suc n) (b ∷ bs) small = (small.0, front_bytes n bs small.1)

pub back_bytes : (n : ℕ) (bytes : List ℕ) → AreBytes bytes → AreBytes (drop n bytes)
back_bytes zero bytes small = small
back_bytes (suc n) [] small = tt
back_bytes (suc n) (b ∷ bs) small = back_bytes n bs small.1

pub piece_bytes : (bytes : List ℕ) (place count : ℕ) → AreBytes bytes → AreBytes (piece bytes place count)
unfolding piece
piece_bytes bytes place count small = front_bytes count (drop place bytes) (back_bytes place bytes small)

pub equal_bytes : (count b : ℕ) → b < 256 → AreBytes (replicate count b)
equal_bytes zero b small = tt
equal_bytes (suc count) b small = (small, equal_bytes count b small)

pub mapped_bytes : {A : Type 0} (f : A → List ℕ) → ((x : A) → AreBytes (f x)) → (xs : List A) → AreBytes (flat_map f xs)
mapped_bytes f each [] = tt
mapped_bytes f each (x ∷ xs) = together (f x) (flat_map f xs) (each x) (mapped_bytes f each xs)

-- Numbers.

at_small : (place n : ℕ) → byte_at place n < 256
at_small zero n = omega arith
at_small (suc place) n = omega arith

pub be_bytes : (count n : ℕ) → AreBytes (be count n)
unfolding be
be_bytes zero n = tt
be_bytes (suc count) n = (at_small count n, be_bytes count n)

pub one_small : (bytes : List ℕ) (place : ℕ) → AreBytes bytes → number 1 bytes place < 256
one_small bytes place small = omega (arith, number_fits 1 bytes place (each_byte bytes small))

pub two_small : (bytes : List ℕ) (place : ℕ) → AreBytes bytes → number 2 bytes place < 2 ^ 16
two_small bytes place small = omega (arith, number_fits 2 bytes place (each_byte bytes small))

pub four_small : (bytes : List ℕ) (place : ℕ) → AreBytes bytes → number 4 bytes place < 2 ^ 32
four_small bytes place small = omega (arith, number_fits 4 bytes place (each_byte bytes small))

pub signed_fits : (n : ℕ) → n < 2 ^ 16 → FitsSigned w16 (cast_signed w16 n)
signed_fits n small =
    let wrapped = wrapping_add-bits w16 n 0 small (omega arith) in
    let same : n ≡ (n + 0) % 2 ^ 16 = omega arith in
    subst (FitsSigned w16) (sym (ap (cast_signed w16) same ∙ wrapped)) (SFits-int_wrap w16 (cast_signed w16 n +ℤ cast_signed w16 0))

pub signed_small : (bytes : List ℕ) (place : ℕ) → AreBytes bytes → FitsSigned w16 (signed bytes place)
signed_small bytes place small = signed_fits (number 2 bytes place) (two_small bytes place small)

-- bytes and then a number of so many bytes
pub then_number : (front : List ℕ) (count n : ℕ) → AreBytes front → AreBytes (front ++ be count n)
then_number front count n are = together front (be count n) are (be_bytes count n)
