-- The names of lists differ, and arrays may have them.
use Rattle.std.proofs.Common.{◌≡◌, ℕ, ◌+◌, ◌%◌, ◌^◌, ◌<◌, ◌≤◌, Bool, true, false, List, [], ◌∷◌, ◌++◌, refl, sym, ap, ◌∙◌, arith}
use Rattle.std.specs.Char.{to_ascii_lowercase}
use Rattle.std.specs.Fmt.{decimal}
use Rattle.std.specs.List.{AllByRecursion}
use Rattle.std.specs.Str.{str_eq_ignore_ascii_case, str_to_ascii_lowercase}
use Rattle.std.proofs.lemmas.Fmt.{decimal_by_steps, decimal_injective}
use Rattle.std.proofs.lemmas.Str.Ascii.{lowercase_is}
use Rattle.rz_core.proofs.Folds.{own_name, same_lower}
use Rattle.rz_core.specs.Decimal.{decimal_of}
use Rattle.rz_tmpl.specs.Body.{list_name}

-- Digits.

abbrev pub AreDigits : List ℕ → Type 0
AreDigits digits = AllByRecursion (λ d. (48 ≤ d) × (d ≤ 57)) digits

digits_push : (digits : List ℕ) (d : ℕ) → AreDigits digits → 48 ≤ d → d ≤ 57 → AreDigits (digits ++ d ∷ [])
digits_push [] d are low high = ((low, high), tt)
digits_push (x ∷ digits) d are low high = (are.0, digits_push digits d are.1 low high)

pub are_digits : (n : ℕ) → n < 2 ^ 64 → AreDigits (decimal n)
are_digits n small = decimal_by_steps (λ (n : ℕ) (digits : List ℕ). AreDigits digits) (λ (n : ℕ) (less : n < 10). ((omega arith, omega arith), tt))
    (λ (n : ℕ) (digits : List ℕ) (more : 10 ≤ n) (are : AreDigits digits). digits_push digits (48 + n % 10) are (omega arith) (omega arith)) n small

lower_digits : (digits : List ℕ) → AreDigits digits → str_to_ascii_lowercase digits ≡ digits
lower_digits [] are = refl
lower_digits (d ∷ digits) are =
    let here : to_ascii_lowercase d ≡ d = (lowercase_is d).1 (let high = are.0.1 in omega arith) in
    ap (λ (x : ℕ). x ∷ str_to_ascii_lowercase digits) here ∙ ap (λ (l : List ℕ). d ∷ l) (lower_digits digits are.1)

-- Names.

pub untrue : (b : Bool) → (b ≡ true → ⊥) → b ≡ false
untrue true so = absurd (so refl)
untrue false so = refl

pub apart : (n k : ℕ) → n < k → k < 2 ^ 64 → str_eq_ignore_ascii_case (list_name n).bytes (list_name k).bytes ≡ false
unfolding decimal_of
apart n k less small =
    let low : n < 2 ^ 64 = omega arith in
    untrue _ (λ is.
    let lower = (same_lower (list_name n).bytes (list_name k).bytes).0 is in
    let tails : str_to_ascii_lowercase (decimal n) ≡ str_to_ascii_lowercase (decimal k) = cc in
    let same : n ≡ k = decimal_injective n k low small (sym (lower_digits (decimal n) (are_digits n low)) ∙ tails ∙ lower_digits (decimal k) (are_digits k small)) in
    absurd (omega arith))

pub itself : (k : ℕ) → str_eq_ignore_ascii_case (list_name k).bytes (list_name k).bytes ≡ true
itself k = own_name (list_name k).bytes
