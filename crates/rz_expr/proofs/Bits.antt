-- The bits that an environment gives are the number that an expression sees.
use Rattle.std.proofs.Common.{◌≡◌, ℕ, suc, ◌-◌, ◌%◌, ◌<◌, ◌^◌, ℤ, pos, negsuc, false, Option, Some, None, Result, Ok, Err, w32, refl, sym, subst, ap, ◌∙◌, arith}
use Rattle.std.specs.Prelude.{◌+ℤ◌, int_lt, option_map}
use Rattle.std.specs.Int.{int_wrap, cast_signed, cast_unsigned}
use Rattle.std.specs.Int.RustNames.{FitsSigned}
use mir.Syntax.{w128}
use Rattle.std.proofs.Math.Nat.{mod-eq_of_lt, mod-lt}
use Rattle.rz_expr.specs.Environment.{Sight}
use Rattle.rz_expr.specs.Value.{known_bits, number_at, reduced}
use Rattle.rz_expr.specs.declared.value.EvalFault.{EvalFault}
use Rattle.rz_expr.specs.declared.value.EvalFault.TheVariants.{LaterData}

-- The arguments as the machine passes them, `f` and `w`, are the first bit and the width.
module _ (sight : Sight) (first width f w : ℤ) (read : Option ℕ) (as_first : f ≡ first) (as_width : w ≡ width)
    (seen : option_map (λ n. pos n) read ≡ sight.bits f w) (low : int_lt w (pos 1) ≡ false) (high : int_lt (pos 32) w ≡ false) where
  bits_are : (bits : Option ℤ) → option_map (λ n. pos n) read ≡ bits → number_at sight first width ≡ known_bits first width bits
  bits_are bits is =
      let there : sight.bits first width ≡ bits =
      ap (λ x. sight.bits x width) (sym as_first) ∙ ap (sight.bits f) (sym as_width) ∙ sym seen ∙ is in
      let low_width = subst (λ x. int_lt x (pos 1) ≡ false) as_width low in
      let high_width = subst (λ x. int_lt (pos 32) x ≡ false) as_width high in
      rw (low_width, high_width, there) refl

  pub number_found : (number : ℕ) → read ≡ Some number → number_at sight first width ≡ Ok (reduced (pos number))
  number_found number is = bits_are (Some (pos number)) (ap (option_map (λ n. pos n)) is)

  pub number_missing : read ≡ None → number_at sight first width ≡ Err (LaterData first (first +ℤ width))
  number_missing is = bits_are None (ap (option_map (λ n. pos n)) is)

-- a number of 128 bits, by its last 32
pub reduced_again : (z : ℤ) → FitsSigned w128 z → reduced (pos (cast_unsigned w128 z % 4294967296)) ≡ reduced z
unfolding int_wrap
reduced_again (pos n) fits = ap (cast_signed w32) (mod-eq_of_lt (mod-lt n (omega arith)))
reduced_again (negsuc n) fits =
    let small : n < 170141183460469231731687303715884105728 = fits.sfits in
    let e : ((340282366920938463463374607431768211456 - suc n) % 4294967296) % 4294967296 ≡ 4294967296 - 1 - n % 4294967296 = omega arith in
    ap (cast_signed w32) e

pub wrap_natural : (number : ℕ) → number < 2 ^ 32 → int_wrap w32 (pos number) ≡ cast_signed w32 number
unfolding int_wrap
wrap_natural number below = ap (cast_signed w32) (mod-eq_of_lt below)

pub same_value : (one other : ℤ) → one ≡ other → ◌≡◌ {A = Result ℤ EvalFault} (Ok one) (Ok other)
same_value one other same = ap (λ (x : ℤ). Ok x) same

pub same_fault : (one other : EvalFault) → one ≡ other → ◌≡◌ {A = Result ℤ EvalFault} (Err one) (Err other)
same_fault one other same = ap (λ (x : EvalFault). Err x) same

pub same_bits : (p s w place start width : ℤ) (fault : EvalFault) → p ≡ place → s ≡ start → w ≡ width
    → fault ≡ LaterData (p +ℤ s) (p +ℤ s +ℤ w) → fault ≡ LaterData (place +ℤ start) (place +ℤ start +ℤ width)
same_bits p s w place start width fault as_place as_start as_width is =
    is ∙ ap (λ (x : ℤ). LaterData (x +ℤ s) (x +ℤ s +ℤ w)) as_place
    ∙ ap (λ (x : ℤ). LaterData (place +ℤ x) (place +ℤ x +ℤ w)) as_start
    ∙ ap (λ (x : ℤ). LaterData (place +ℤ start) (place +ℤ start +ℤ x)) as_width
