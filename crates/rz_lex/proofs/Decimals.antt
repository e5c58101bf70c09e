-- A decimal number is read back.
use Rattle.std.proofs.Common.{◌≡◌, ℕ, ◌+◌, ◌*◌, ◌-◌, ◌/◌, ◌%◌, ◌<◌, ◌^◌, Bool, true, List, [], ◌∷◌, ◌++◌, Some, length, get_or, refl, ap, ◌∙◌, subst, arith, inl, inr}
use Rattle.std.specs.Prelude.{nat_lt, nat_le, ◌==◌, ◌||◌, ◌&&◌, decimal}
use Rattle.std.proofs.lemmas.Bool.{ne_eqb, lt-ltb, le-leb, and_parts, and_from, cases_eq, leb-true, or_right}
use Rattle.std.proofs.lemmas.Fmt.{decimal_by_steps, decimal_digit, first_decimal}
use Rattle.rz_lex.specs.Classes.{is_digit, is_letter, is_word_byte}
use Rattle.rz_lex.specs.Extent.{are_word_bytes}
use Rattle.rz_lex.specs.Digits.{digit_value, are_digits, spelled_from, digits_value, number_value}

abbrev pub are_decimal : List ℕ → Bool
are_decimal [] = true
are_decimal (d ∷ ds) = is_digit d && are_decimal ds

-- decimal digits that spell this number
pub record Spells (number : ℕ) (ds : List ℕ) : Type 0 where
  pub digits : are_decimal ds ≡ true
  pub value : spelled_from 10 0 ds ≡ number

is_digit-+ : (n : ℕ) → n < 10 → is_digit (48 + n) ≡ true
is_digit-+ n small = and_from (nat_le 48 (48 + n)) (nat_le (48 + n) 57) (le-leb 48 (48 + n) (omega arith)) (le-leb (48 + n) 57 (omega arith))

value_of_digit : (d : ℕ) → is_digit d ≡ true → digit_value d ≡ d - 48
value_of_digit d digit = rw digit refl

decimal_more : (ds : List ℕ) (d : ℕ) → are_decimal ds ≡ true → is_digit d ≡ true → are_decimal (ds ++ d ∷ []) ≡ true
decimal_more [] d all digit = rw digit refl
decimal_more (c ∷ ds) d all digit = let parts = and_parts (is_digit c) (are_decimal ds) all in rw parts.0 (decimal_more ds d parts.1 digit)

spelled_more : (number : ℕ) (ds : List ℕ) (d : ℕ) → spelled_from 10 number (ds ++ d ∷ []) ≡ 10 * spelled_from 10 number ds + digit_value d
spelled_more number [] d = refl
spelled_more number (c ∷ ds) d = spelled_more (10 * number + digit_value c) ds d

pub decimal_spells : (n : ℕ) → n < 2 ^ 64 → Spells n (decimal n)
decimal_spells = decimal_by_steps Spells
    (λ n small. record { digits = rw (is_digit-+ n small) refl; value = one n small })
    (λ n ds some so_far. record {
      digits = decimal_more ds (48 + n % 10) so_far.digits (is_digit-+ (n % 10) (omega arith));
      value = more n ds so_far.value;
    })
  where
    one : (n : ℕ) → n < 10 → spelled_from 10 0 ((48 + n) ∷ []) ≡ n
    one n small = rw (value_of_digit (48 + n) (is_digit-+ n small)) (omega arith)

    more : (n : ℕ) (ds : List ℕ) → spelled_from 10 0 ds ≡ n / 10 → spelled_from 10 0 (ds ++ (48 + n % 10) ∷ []) ≡ n
    more n ds so_far =
        let last : digit_value (48 + n % 10) ≡ n % 10 = value_of_digit (48 + n % 10) (is_digit-+ (n % 10) (omega arith)) ∙ omega arith in
        rw (spelled_more 0 ds (48 + n % 10), so_far, last) (omega arith)

pub digit_in_word : (d : ℕ) → is_digit d ≡ true → is_word_byte d ≡ true
digit_in_word d digit = or_right (is_letter d || d == 95) (is_digit d) digit

pub decimal_in_word : (ds : List ℕ) → are_decimal ds ≡ true → are_word_bytes ds ≡ true
decimal_in_word [] all = refl
decimal_in_word (d ∷ ds) all = let parts = and_parts (is_digit d) (are_decimal ds) all in rw (digit_in_word d parts.0) (decimal_in_word ds parts.1)

below_ten : (d : ℕ) → is_digit d ≡ true → nat_lt (digit_value d) 10 ≡ true
below_ten d digit = let parts = and_parts (nat_le 48 d) (nat_le d 57) digit in rw (value_of_digit d digit) (lt-ltb (d - 48) 10 (let most = leb-true d 57 parts.1 in omega arith))

are_ten : (ds : List ℕ) → are_decimal ds ≡ true → are_digits 10 ds ≡ true
are_ten [] all = refl
are_ten (d ∷ ds) all = let parts = and_parts (is_digit d) (are_decimal ds) all in rw (below_ten d parts.0) (are_ten ds parts.1)

ten_value : (ds : List ℕ) (n : ℕ) → 0 < length ds → Spells n ds → n < 2 ^ 32 → digits_value 10 ds ≡ Some n
ten_value ds n some spells below = rw (lt-ltb 0 (length ds) some, are_ten ds spells.digits, spells.value, lt-ltb n (2 ^ 32) below) refl

-- digits that do not begin with 0, or 0 alone
pub decimal_value : (d : ℕ) (ds : List ℕ) (n : ℕ) → is_digit d ≡ true → Spells n (d ∷ ds) → n < 2 ^ 32 → (d ≡ 48 → ds ≡ []) → number_value (d ∷ ds) ≡ Some n
decimal_value d ds n digit spells below alone = elim (cases_eq d 48) [
  | inl e ↦ (let value : spelled_from 10 0 (48 ∷ []) ≡ n = subst (λ (x : ℕ). spelled_from 10 0 (x ∷ []) ≡ n) e (subst (λ (x : List ℕ). spelled_from 10 0 (d ∷ x) ≡ n) (alone e) spells.value) in rw (e, alone e) (ap (λ (x : ℕ). Some x) value))
  | inr e ↦ rw (ne_eqb d 36 no_dollar, ne_eqb d 48 e) (ten_value (d ∷ ds) n (omega arith) spells below)
]
  where
    no_dollar : d ≡ 36 → ⊥
    no_dollar e = let parts = and_parts (nat_le 48 d) (nat_le d 57) digit in let least = leb-true 48 d parts.0 in omega (arith, least, e)

pub length-zero : (ds : List ℕ) → length ds ≡ 0 → ds ≡ []
length-zero [] e = refl
length-zero (d ∷ ds) e = absurd (omega (arith, e))

-- a decimal that begins with 0 is 0
pub decimal_alone : (n : ℕ) → n < 2 ^ 64 → get_or (decimal n) 0 0 ≡ 48 → length (decimal n) ≡ 1
decimal_alone n wide first = elim (cases_eq n 0) [
  | inl naught ↦ rw (naught, decimal_digit 0 (omega arith)) refl
  | inr some ↦ (let k = first_decimal n (omega (arith, some)) wide in absurd (omega (arith, k, first)))
]
