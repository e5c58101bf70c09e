-- What stands outside options.
use Rattle.std.proofs.Common.{◌≡◌, ℕ, zero, suc, ◌-◌, ◌≤◌, ◌<◌, ◌^◌, true, false, List, [], ◌∷◌, ◌++◌, length, replicate, refl, sym, ap, ◌∙◌, arith, length-append}
use Rattle.std.specs.Prelude.{codes, ltb}
use Rattle.std.specs.List.{AllByRecursion}
use Rattle.std.specs.Str.{bytes_eq}
use Rattle.std.proofs.Math.Decide.{map_dec}
use Rattle.std.proofs.lemmas.Bool.{leb-true, ltb-false, ltb-true}
use Rattle.std.proofs.lemmas.Fmt.{decimal_digit, decimal_injective}
use Rattle.rz_core.specs.Decimal.{decimal_of}
use Rattle.rz_core.proofs.EveryCut.{head, tail}
use Rattle.rz_core.proofs.Tests.{by_test}
use Rattle.rz_tools_args.specs.Command.{is_place, ArePlaces}
use Rattle.rz_tools_args.specs.Held.{fewest, IsCount, MayBegin, MayStand}
use Rattle.rz_tools_args.specs.declared.syntax.Places.{Places}
use Rattle.rz_tools_args.specs.declared.syntax.Places.TheVariants as places
use Rattle.rz_tools_args.proofs.Found.{differ, same_word}
use Rattle.rz_tools_args.proofs.Sound.{can_be}
use Rattle.rz_tools_args.proofs.Words.{Words}

has_one : (words : Words) (word : List ℕ) → words ++ word ∷ [] ≡ [] → ⊥
has_one [] word is = cc is
has_one (x ∷ words) word is = cc is

none_left : (words others : Words) → words ++ others ≡ [] → words ≡ []
none_left [] others is = refl
none_left (x ∷ words) others is = cc

-- Fronts.

pub no_places : (places : Places) → MayBegin places []
no_places (places.AtLeast count) = tt
no_places (places.Exactly count) = omega arith
no_places (places.Count most) = tt

pub may_add : (places : Places) (words : Words) (word : List ℕ) → MayBegin places words → MayStand places (length words) word → MayBegin places (words ++ word ∷ [])
may_add (places.AtLeast count) words word may stands = tt
may_add (places.Exactly most) words word may stands = omega (arith, stands, length-append words (word ∷ []))
may_add (places.Count most) [] word may stands = (refl, stands.1)
may_add (places.Count most) (x ∷ words) word may stands = absurd (omega (arith, stands.0))

pub may_back : (places : Places) (words : Words) (word : List ℕ) → MayBegin places (words ++ word ∷ []) → MayStand places (length words) word
may_back (places.AtLeast count) words word may = tt
may_back (places.Exactly most) words word may = omega (arith, may, length-append words (word ∷ []))
may_back (places.Count most) [] word may = (refl, may.1)
may_back (places.Count most) (x ∷ words) word may = absurd (has_one words word may.0)

pub may_front : (places : Places) (words others : Words) → ArePlaces places (words ++ others) → MayBegin places words
may_front (places.AtLeast count) words others are = tt
may_front (places.Exactly most) words others are = omega (arith, are, length-append words others)
may_front (places.Count most) [] others are = tt
may_front (places.Count most) (x ∷ words) others (number, is, some, few) =
    (none_left words others (tail x (decimal_of number) (words ++ others) [] is), (number, head x (decimal_of number) (words ++ others) [] is, some, few))

-- Wholes.

pub are_places : (places : Places) (words : Words) → MayBegin places words → fewest places ≤ length words → ArePlaces places words
are_places (places.AtLeast count) words may few = few
are_places (places.Exactly count) words may few = omega (arith, may, few)
are_places (places.Count most) [] may few = absurd (omega (arith, few))
are_places (places.Count most) (x ∷ words) (none, (number, is, some, less)) few =
    (number, ap (λ (ws : Words). x ∷ ws) none ∙ ap (λ (w : List ℕ). w ∷ []) is, some, less)

pub are_enough : (places : Places) (words : Words) → ArePlaces places words → fewest places ≤ length words
are_enough (places.AtLeast count) words are = are
are_enough (places.Exactly count) words are = omega (arith, are)
are_enough (places.Count most) words (number, is, some, few) = omega (arith, ap (λ (ws : Words). length ws) is)

-- What is missing after a front.

pub record Filled (places : Places) (words : Words) : Type 0 where
  pub rest : Words
  pub stand : AllByRecursion (λ word. is_place word ≡ true) rest
  pub are : ArePlaces places (words ++ rest)

empty_places : (n : ℕ) → AllByRecursion (λ word. is_place word ≡ true) (replicate n [])
empty_places zero = tt
empty_places (suc n) = (refl, empty_places n)

empty_length : (n : ℕ) → length {A = List ℕ} (replicate n []) ≡ n
empty_length zero = refl
empty_length (suc n) = ap (λ k. suc k) (empty_length n)

one_is : codes "1" ≡ decimal_of 1
unfolding decimal_of
one_is = sym (decimal_digit 1 (omega arith))

pub fill : (places : Places) (words : Words) → can_be places ≡ true → MayBegin places words → Filled places words
fill (places.AtLeast count) words can may = record {
  rest = replicate count [];
  stand = empty_places count;
  are = omega (arith, empty_length count, length-append words (replicate count []));
}
fill (places.Exactly count) words can may = record {
  rest = replicate (count - length words) [];
  stand = empty_places (count - length words);
  are = omega (arith, may, empty_length (count - length words), length-append words (replicate (count - length words) []));
}
fill (places.Count most) [] can may = record {
  rest = codes "1" ∷ [];
  stand = (refl, tt);
  are = (1, ap (λ (w : List ℕ). w ∷ []) one_is, omega arith, leb-true 1 most can);
}
fill (places.Count most) (x ∷ words) can (none, (number, is, some, few)) = record {
  rest = [];
  stand = tt;
  are = (number, ap (λ (ws : Words). x ∷ (ws ++ [])) none ∙ ap (λ (w : List ℕ). w ∷ []) is, some, few);
}

-- a word is the decimal of one number at most
pub same_number : (word : List ℕ) (number other : ℕ) → number < 2 ^ 32 → other < 2 ^ 32 → word ≡ decimal_of number → word ≡ decimal_of other → number ≡ other
unfolding decimal_of
same_number word number other small small_too is too = decimal_injective number other (omega (arith, small)) (omega (arith, small_too)) (sym is ∙ too)

-- It is decided whether a word may stand.

is_count : (most : ℕ) (word : List ℕ) → Dec (IsCount most word)
is_count zero word = no (λ h. omega (arith, h.2, h.3))
is_count (suc most) word =
    by_test (Dec (IsCount (suc most) word)) (bytes_eq word (decimal_of (suc most)))
    (λ is. yes (suc most, same_word word (decimal_of (suc most)) is, omega arith, omega arith)) (λ fails. map_dec to (from fails) (is_count most word))
  where
    to : IsCount most word → IsCount (suc most) word
    to (number, is, some, few) = (number, is, some, omega (arith, few))

    from : bytes_eq word (decimal_of (suc most)) ≡ false → IsCount (suc most) word → IsCount most word
    from fails (number, is, some, few) = (number, is, some, omega (arith, few, other fails number is))
      where
        other : bytes_eq word (decimal_of (suc most)) ≡ false → (number : ℕ) → word ≡ decimal_of number → number ≡ suc most → ⊥
        other fails number is same = differ word (decimal_of (suc most)) fails (is ∙ ap decimal_of same)

is_less : (a b : ℕ) → Dec (a < b)
is_less a b = by_test (Dec (a < b)) (ltb a b) (λ is. yes (ltb-true a b is)) (λ fails. no (λ h. omega (arith, h, ltb-false a b fails)))

pub may_stand : (places : Places) (count : ℕ) (word : List ℕ) → Dec (MayStand places count word)
may_stand (places.AtLeast fewest) count word = yes tt
may_stand (places.Exactly most) count word = is_less count most
may_stand (places.Count most) zero word = map_dec (λ is. (refl, is)) (λ h. h.1) (is_count most word)
may_stand (places.Count most) (suc count) word = no (λ h. omega (arith, h.0))
