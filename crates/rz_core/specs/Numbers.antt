-- Numbers as the Macintosh stores them: unsigned, the highest byte first. (Inside Macintosh: More Macintosh
-- Toolbox, Resource Manager, resource file format.)
use Rattle.std.specs.Prelude.{◌≡◌, refl, ℕ, zero, suc, ◌+◌, ◌-◌, ◌^◌, min, List, [], ◌∷◌, length, drop}
use Rattle.std.specs.Int.{bytes_high_first}
use Rattle.byteorder.specs.Endian.{big_number}

-- the number in so many bytes, modulo 256 to that power
unfoldable pub be : ℕ → ℕ → List ℕ
be count number = bytes_high_first count number

pub length-be_1 : (number : ℕ) → length (be 1 number) ≡ 1
unfolding be
length-be_1 number = refl

pub length-be_2 : (number : ℕ) → length (be 2 number) ≡ 2
unfolding be
length-be_2 number = refl

pub length-be_3 : (number : ℕ) → length (be 3 number) ≡ 3
unfolding be
length-be_3 number = refl

pub length-be_4 : (number : ℕ) → length (be 4 number) ≡ 4
unfolding be
length-be_4 number = refl

-- the number in so many bytes from a place on; places count from 0
unfoldable pub number : ℕ → List ℕ → ℕ → ℕ
number count bytes place = big_number count (drop place bytes)

-- so many items that stand one after the other, each in so many bytes, the first at a place
abbrev pub items_from : {A : Type 0} → (ℕ → A) → ℕ → ℕ → ℕ → List A
items_from item size place zero = []
items_from item size place (suc count) = item place ∷ items_from item size (place + size) count

-- a length as a fault keeps it: lengths above 2^63 - 1 are kept as 2^63 - 1
abbrev pub kept_length : ℕ → ℕ
kept_length length = min length (2 ^ 63 - 1)
