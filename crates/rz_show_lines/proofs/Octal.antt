-- How many octal digits a number has.
use Rattle.std.proofs.Common.{◌≡◌, ℕ, zero, suc, ◌/◌, ◌<◌, ◌≤◌, ◌^◌, arith}
use Rattle.std.specs.Prelude.{◌==◌}
use Rattle.std.proofs.lemmas.Bool.{eqb-true}
use Rattle.std.proofs.Math.Nat.{pow-suc}
use Rattle.rz_core.proofs.Tests.{by_test}
use Rattle.rz_show_lines.specs.Written.{digit_count, octal_count}

-- a number has no more digits than its count, and the count is no more than the most
count_is : (most n : ℕ) → n < 8 ^ most → n < 8 ^ digit_count most 8 n
count_is zero n below = below
count_is (suc most) n below = by_test (n < 8 ^ digit_count (suc most) 8 n) (n == 0)
    (λ h. let none : n ≡ 0 = eqb-true n 0 h in rw h (omega (arith, none)))
    (λ h. let inner = count_is most (n / 8) (omega (arith, below, pow-suc 8 most)) in
    let next = pow-suc 8 (digit_count most 8 (n / 8)) in
    rw h (omega (arith, inner, next)))

count_few : (most n : ℕ) → digit_count most 8 n ≤ most
count_few zero n = omega arith
count_few (suc most) n = by_test (digit_count (suc most) 8 n ≤ suc most) (n == 0)
    (λ h. rw h (omega arith))
    (λ h. let inner = count_few most (n / 8) in rw h (omega (arith, inner)))

pub octal_is : (n : ℕ) → n < 2 ^ 32 → n < 8 ^ octal_count n
unfolding octal_count
octal_is n below = count_is 11 n (omega (arith, below))

pub octal_few : (n : ℕ) → octal_count n ≤ 11
unfolding octal_count
octal_few n = count_few 11 n
