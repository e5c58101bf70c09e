-- The first digit of a number.
use Rattle.std.specs.Prelude.{◌≡◌, ℕ, zero, suc, ◌/◌, ◌%◌, ◌^◌, ◌<◌, nat_lt, ◌==◌, false, List, ◌∷◌, slice_index}
use Rattle.std.proofs.Common.{arith}
use Rattle.std.proofs.lemmas.Bool.{eqb-true, eqb-false}
use Rattle.std.proofs.Math.Nat.{pow-suc, pow-zero}
use Rattle.std.specs.Fmt.{digit_glyph, digits, digits_onto}
use Rattle.rz_core.proofs.Tests.{by_test}

glyph_leads : (digit : ℕ) → 0 < digit → 48 < digit_glyph false digit
glyph_leads digit some = by_test (48 < digit_glyph false digit) (nat_lt digit 10) (λ small. rw small (omega arith)) (λ large. rw large (omega arith))

hexadecimal_onto : (most n : ℕ) (rest : List ℕ) → 0 < n → n < 16 ^ most → 48 < slice_index (digits_onto most 16 false n rest) 0
hexadecimal_onto zero n rest some below = absurd (omega (arith, pow-zero 16))
hexadecimal_onto (suc most) n rest some below = by_test (48 < slice_index (digits_onto (suc most) 16 false n rest) 0) (n / 16 == 0)
    (λ last. let none : n / 16 ≡ 0 = eqb-true (n / 16) 0 last in rw last (glyph_leads (n % 16) (omega arith)))
    (λ more. let others : n / 16 ≡ 0 → ⊥ = eqb-false (n / 16) 0 more in
    rw more (hexadecimal_onto most (n / 16) (digit_glyph false (n % 16) ∷ rest) (omega arith) (omega (arith, pow-suc 16 most))))

octal_onto : (most n : ℕ) (rest : List ℕ) → 0 < n → n < 8 ^ most → 48 < slice_index (digits_onto most 8 false n rest) 0
octal_onto zero n rest some below = absurd (omega (arith, pow-zero 8))
octal_onto (suc most) n rest some below = by_test (48 < slice_index (digits_onto (suc most) 8 false n rest) 0) (n / 8 == 0)
    (λ last. let none : n / 8 ≡ 0 = eqb-true (n / 8) 0 last in rw last (glyph_leads (n % 8) (omega arith)))
    (λ more. let others : n / 8 ≡ 0 → ⊥ = eqb-false (n / 8) 0 more in
    rw more (octal_onto most (n / 8) (digit_glyph false (n % 8) ∷ rest) (omega arith) (omega (arith, pow-suc 8 most))))

pub hexadecimal_leads : (n : ℕ) → 0 < n → n < 2 ^ 32 → 48 < slice_index (digits 16 false n) 0
unfolding digits
hexadecimal_leads n some small = hexadecimal_onto 64 n _ some (omega arith)

pub octal_leads : (n : ℕ) → 0 < n → n < 2 ^ 32 → 48 < slice_index (digits 8 false n) 0
unfolding digits
octal_leads n some small = octal_onto 64 n _ some (omega arith)
