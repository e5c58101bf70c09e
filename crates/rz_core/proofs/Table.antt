-- The table of Mac Roman, read in both directions.
use Rattle.std.proofs.Common.{◌≡◌, ◌≢◌, ℕ, suc, ◌+◌, ◌-◌, ◌<◌, ◌≤◌, Bool, true, false, List, [], ◌∷◌, Option, Some, None, length, get_or, refl, sym, ap, ◌∙◌, arith}
use Rattle.std.specs.Prelude.{nat_lt, ◌==◌}
use Rattle.std.proofs.lemmas.Bool.{agree_below_at, eqb-true, ltb-true, le-ltb}
use Rattle.rz_core.proofs.Tests.{by_test}
use Rattle.rz_core.specs.Roman.{upper_half, roman_char, roman_byte, place_from, IsOneToOne}

-- the 256 bytes, one after the other

abbrev pub is_byte : Option ℕ → ℕ → Bool
is_byte None byte = false
is_byte (Some found) byte = found == byte

pub same_byte : (found : Option ℕ) (byte : ℕ) → is_byte found byte ≡ true → found ≡ Some byte
same_byte None byte is = absurd cc
same_byte (Some found) byte is = ap (λ (b : ℕ). Some b) (eqb-true found byte is)

back : (byte : ℕ) → byte < 256 → roman_byte (roman_char byte) ≡ Some byte
back byte below =
    same_byte (roman_byte (roman_char byte)) byte (agree_below_at (λ b. is_byte (roman_byte (roman_char b)) b) (λ b. true) 256 byte refl below)

-- a place that was found is in the list, and has the character

at_place : (first : ℕ) (cs : List ℕ) (char place : ℕ) → place_from first cs char ≡ Some place
    → (first ≤ place) × (place < first + length cs) × (get_or cs (place - first) 0 ≡ char)
at_place first [] char place is = absurd cc
at_place first (c ∷ cs) char place is = by_test ((first ≤ place) × (place < first + length (c ∷ cs)) × (get_or (c ∷ cs) (place - first) 0 ≡ char)) (c == char)
    (λ here. let found : Some first ≡ Some place = rw here at is in let same : first ≡ place = cc in let start : place - first ≡ 0 = omega arith in
    (omega arith, omega arith, rw start (eqb-true c char here)))
    (λ there. let found : place_from (first + 1) cs char ≡ Some place = rw there at is in
    let at = at_place (first + 1) cs char place found in
    later at.0 at.1 at.2)
  where
    later : first + 1 ≤ place → place < first + 1 + length cs → get_or cs (place - (first + 1)) 0 ≡ char
        → (first ≤ place) × (place < first + length (c ∷ cs)) × (get_or (c ∷ cs) (place - first) 0 ≡ char)
    later above below has = let next : place - first ≡ suc (place - (first + 1)) = omega arith in (omega arith, omega arith, rw next has)

stands : (char byte : ℕ) → roman_byte char ≡ Some byte → (byte < 256) × (roman_char byte ≡ char)
stands char byte is = by_test ((byte < 256) × (roman_char byte ≡ char)) (nat_lt char 128)
    (λ low. let found : Some char ≡ Some byte = rw low at is in let same : char ≡ byte = cc in let below = ltb-true char 128 low in
    (omega arith, rw (sym same, low) refl))
    (λ high. let found : place_from 128 upper_half char ≡ Some byte = rw high at is in
    let at = at_place 128 upper_half char byte found in
    (omega (arith, at.1), rw (le-ltb byte 128 at.0) at.2))

none : (char byte : ℕ) → roman_byte char ≡ None → byte < 256 → roman_char byte ≢ char
none char byte is below same = let found : roman_byte char ≡ Some byte = rw same at (back byte below) in cc

pub one_to_one : IsOneToOne
one_to_one = record {
  back = back;
  stands = stands;
  none = none;
  same = λ char other byte is also. sym (stands char byte is).1 ∙ (stands other byte also).1;
}
