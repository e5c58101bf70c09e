-- Letters that were written are read as the bytes.
use Rattle.std.proofs.Common.{◌≡◌, ℕ, ◌+◌, ◌*◌, ◌/◌, ◌%◌, ◌<◌, ◌≤◌, ◌==◌, ◌&&◌, nat_lt, not, if◌then◌else◌, Bool, true, false, List, [], ◌∷◌, length, get_or, Option, Some, None, refl, sym, ap, ◌∙◌, arith}
use Rattle.std.proofs.lemmas.Bool.{agree_below_at, eqb-true, not-true}
use Rattle.std.proofs.lemmas.Bool.Decides.{nat_tests}
use Rattle.std.specs.List.{AllByRecursion}
use Rattle.rz_core.proofs.Tests.{both}
use Rattle.rz_hqx.specs.declared.letters.TheConstants.{NUMBERS}
use Rattle.rz_hqx.specs.Letters.{letter, number_of, sixes, eights}
use Rattle.rz_hqx.specs.Text.{is_blank}

-- a byte
abbrev pub IsByte : ℕ → Type 0
IsByte b = b < 256

-- a number of six bits
abbrev pub IsSix : ℕ → Type 0
IsSix n = n < 64

-- The sixes of bytes.

pub eights_again : (bytes : List ℕ) → AllByRecursion IsByte bytes → eights (sixes bytes) ≡ bytes
eights_again [] small = refl
eights_again (a ∷ []) small =
    let first : a / 4 * 4 + a % 4 * 16 / 16 ≡ a = omega arith in λ i. first i ∷ []
eights_again (a ∷ b ∷ []) small =
    let bound : b < 256 = small.1.0 in
    let first : a / 4 * 4 + (a % 4 * 16 + b / 16) / 16 ≡ a = omega arith in
    let second : (a % 4 * 16 + b / 16) % 16 * 16 + b % 16 * 4 / 4 ≡ b = omega arith in
    λ i. first i ∷ second i ∷ []
eights_again (a ∷ b ∷ c ∷ rest) small =
    let bound : b < 256 = small.1.0 in
    let last : c < 256 = small.1.1.0 in
    let first : a / 4 * 4 + (a % 4 * 16 + b / 16) / 16 ≡ a = omega arith in
    let second : (a % 4 * 16 + b / 16) % 16 * 16 + (b % 16 * 4 + c / 64) / 4 ≡ b = omega arith in
    let third : (b % 16 * 4 + c / 64) % 4 * 64 + c % 64 ≡ c = omega arith in
    let later = eights_again rest small.1.1.1 in
    λ i. first i ∷ second i ∷ third i ∷ later i

pub sixes_small : (bytes : List ℕ) → AllByRecursion IsByte bytes → AllByRecursion IsSix (sixes bytes)
sixes_small [] small = tt
sixes_small (a ∷ []) small = let bound : a < 256 = small.0 in (omega arith, (omega arith, tt))
sixes_small (a ∷ b ∷ []) small =
    let first : a < 256 = small.0 in let bound : b < 256 = small.1.0 in (omega arith, (omega arith, (omega arith, tt)))
sixes_small (a ∷ b ∷ c ∷ rest) small =
    let first : a < 256 = small.0 in
    let bound : b < 256 = small.1.0 in
    let last : c < 256 = small.1.1.0 in
    (omega arith, (omega arith, (omega arith, (omega arith, sixes_small rest small.1.1.1))))

-- The table of numbers.

value_or : Option ℕ → ℕ
value_or None = 64
value_or (Some n) = n

is_six : Option ℕ → Bool
is_six None = true
is_six (Some n) = nat_lt n 64

tested : ℕ → Bool
tested byte = (value_or (number_of byte) == get_or NUMBERS byte 0) && is_six (number_of byte)

table_is : (byte : ℕ) → byte < 256 → tested byte ≡ true
unfolding tested value_or is_six
table_is byte small = agree_below_at tested (λ k. true) 256 byte refl small

from_table : (found : Option ℕ) (entry : ℕ) → value_or found ≡ entry → is_six found ≡ true → found ≡ (if nat_lt entry 64 then Some entry else None)
unfolding value_or is_six
from_table None entry same six = ap (λ (n : ℕ). if nat_lt n 64 then Some n else None) same
from_table (Some n) entry same six = sym (ap (λ (t : Bool). if t then Some n else None) six) ∙ ap (λ (n : ℕ). if nat_lt n 64 then Some n else None) same

pub number_is : (byte : ℕ) → byte < 256 → number_of byte ≡ (if nat_lt (get_or NUMBERS byte 0) 64 then Some (get_or NUMBERS byte 0) else None)
unfolding tested
number_is byte small =
    let parts = both (value_or (number_of byte) == get_or NUMBERS byte 0) (is_six (number_of byte)) (table_is byte small) in
    from_table (number_of byte) (get_or NUMBERS byte 0) (eqb-true (value_or (number_of byte)) (get_or NUMBERS byte 0) parts.0) parts.1

pub number_there : (byte n : ℕ) → byte < 256 → n ≡ get_or NUMBERS byte 0 → n < 64 → Some n ≡ number_of byte
number_there byte n small same below =
    let test : nat_lt n 64 ≡ true = grind (arith, nat_tests) in
    sym (number_is byte small ∙ ap (λ (k : ℕ). if nat_lt k 64 then Some k else None) (sym same) ∙ ap (λ (t : Bool). if t then Some n else None) test)

pub number_absent : (byte n : ℕ) → byte < 256 → n ≡ get_or NUMBERS byte 0 → 64 ≤ n → None ≡ number_of byte
number_absent byte n small same above =
    let test : nat_lt n 64 ≡ false = grind (arith, nat_tests) in
    sym (number_is byte small ∙ ap (λ (k : ℕ). if nat_lt k 64 then Some k else None) (sym same) ∙ ap (λ (t : Bool). if t then Some n else None) test)

-- fewer bytes than numbers
pub few_eights : (numbers : List ℕ) → length (eights numbers) ≤ length numbers
few_eights [] = omega arith
few_eights (p ∷ []) = omega arith
few_eights (p ∷ q ∷ []) = omega arith
few_eights (p ∷ q ∷ r ∷ []) = omega arith
few_eights (p ∷ q ∷ r ∷ s ∷ rest) = omega (arith, few_eights rest)

-- The letters.

is_number : Option ℕ → ℕ → Bool
is_number None number = false
is_number (Some found) number = found == number

written : ℕ → Bool
written number = is_number (number_of (letter number)) number && (not (letter number == 58) && not (is_blank (letter number)))

letter_is : (number : ℕ) → number < 64 → written number ≡ true
unfolding written is_number
letter_is number small = agree_below_at written (λ k. true) 64 number refl small

same_number : (found : Option ℕ) (number : ℕ) → is_number found number ≡ true → found ≡ Some number
unfolding is_number
same_number None number is = absurd cc
same_number (Some found) number is = ap (λ (n : ℕ). Some n) (eqb-true found number is)

-- a letter is read as its number, and is neither a colon nor a blank
pub record IsLetter (n : ℕ) : Type 0 where
  pub number : number_of (letter n) ≡ Some n
  pub colon : (letter n == 58) ≡ false
  pub blank : is_blank (letter n) ≡ false

pub letter_read : (number : ℕ) → number < 64 → IsLetter number
unfolding written
letter_read number small =
    let all = both (is_number (number_of (letter number)) number) (not (letter number == 58) && not (is_blank (letter number))) (letter_is number small) in
    let rest = both (not (letter number == 58)) (not (is_blank (letter number))) all.1 in
    record { number = same_number (number_of (letter number)) number all.0; colon = not-true (letter number == 58) rest.0; blank = not-true (is_blank (letter number)) rest.1 }
