-- The bytes of a group of letters, letter by letter.
use Rattle.std.proofs.Common.{◌≡◌, ℕ, ◌+◌, ◌*◌, ◌/◌, ◌%◌, List, [], ◌∷◌, drop, refl}
use Rattle.rz_hqx.specs.Letters.{eights}

pub second_letter : (p q : ℕ) (numbers : List ℕ) → eights (p ∷ q ∷ numbers) ≡ (p * 4 + q / 16) ∷ drop 1 (eights (0 ∷ q ∷ numbers))
second_letter p q [] = refl
second_letter p q (r ∷ []) = refl
second_letter p q (r ∷ s ∷ numbers) = refl

pub third_letter : (q r : ℕ) (numbers : List ℕ) → drop 1 (eights (0 ∷ q ∷ r ∷ numbers)) ≡ (q % 16 * 16 + r / 4) ∷ drop 2 (eights (0 ∷ 0 ∷ r ∷ numbers))
third_letter q r [] = refl
third_letter q r (s ∷ numbers) = refl

pub fourth_letter : (r s : ℕ) (numbers : List ℕ) → drop 2 (eights (0 ∷ 0 ∷ r ∷ s ∷ numbers)) ≡ (r % 4 * 64 + s) ∷ eights numbers
fourth_letter r s numbers = refl
