-- A text that begins as a decimal does and is read as a number is the decimal of it. The decimal of a number begins so, and
-- is read as that number.
use mathlib.Core.Path.{◌≡◌, refl, sym, ap, subst, ◌∙◌}
use mathlib.Core.List.{List, [], ◌∷◌}
use Prim.Native.Nat.{ℕ, zero, suc, ◌^◌, ◌<◌}
use native.Mathlib.Omega.{arith}
use lib.ListN.{length, get_or}
use Rattle.std.specs.declared.result.Result.{Result}
use Rattle.std.specs.declared.result.Result.TheVariants.{Ok, Err}
use Rattle.std.specs.Fmt.{decimal}
use Rattle.std.specs.Option.{IfNone, IfSome}
use Rattle.std.specs.Result.{result_ok}
use Rattle.std.specs.Str.Parse.{AllDigits, ParsesUnsigned}
use Rattle.std.proofs.lemmas.Fmt.{decimal-digits_value, decimal_digit, decimal_is_IsNumeral, first_decimal, parse-decimal}
use Rattle.std.proofs.lemmas.Str.Parse.{digit_from_value, numerals_by_value, parse_plain, tells_digits}
use Rattle.rz_core.specs.Decimal.{decimal_of}
use Rattle.rz_tools_args.specs.Number.{BeginsAsDecimal}

begins_where : (text : List ℕ) → AllDigits 10 text → 0 < length text → 48 < get_or text 0 0 → BeginsAsDecimal text
begins_where [] digits some first = absurd (omega arith)
begins_where (c ∷ []) digits some first = (omega arith, (digit_from_value c digits.0).1)
begins_where (c ∷ d ∷ cs) digits some first = (omega arith, (digit_from_value c digits.0).1)

begins : (number : ℕ) → number < 2 ^ 64 → BeginsAsDecimal (decimal number)
begins zero small = subst BeginsAsDecimal (sym (decimal_digit 0 (omega arith))) (omega arith, omega arith)
begins (suc n) small =
    let numeral = (decimal_is_IsNumeral (suc n) small).0 in
    begins_where (decimal (suc n)) numeral.1 numeral.0 (first_decimal (suc n) (omega arith) small)

pub decimal_begins_so : (text : List ℕ) (number : ℕ) → number < 2 ^ 32 → text ≡ decimal_of number → BeginsAsDecimal text
unfolding decimal_of
decimal_begins_so text number small is = subst BeginsAsDecimal (sym is) (begins number (omega arith))

no_plus : (text : List ℕ) → BeginsAsDecimal text → get_or text 0 0 ≡ 43 → ⊥
no_plus [] is plus = is
no_plus (c ∷ []) is plus = omega (arith, is.0)
no_plus (c ∷ d ∷ cs) is plus = omega (arith, is.0)

no_zero : (text : List ℕ) → BeginsAsDecimal text → get_or text 0 0 ≡ 48 → length text ≡ 1
no_zero [] is first = absurd is
no_zero (c ∷ []) is first = refl
no_zero (c ∷ d ∷ cs) is first = absurd (omega (arith, is.0))

ok_is_no_err : {E : Type 0} (error : E) (number : ℕ) → Err error ≡ Ok number → ⊥
ok_is_no_err {E} error number same = subst is_err same tt
  where
    is_err : Result ℕ E → Type 0
    is_err (Ok value) = ⊥
    is_err (Err other) = Unit {0}

module _ {E : Type 0} where
  pub read_is_decimal : (text : List ℕ) (read : Result ℕ E) → BeginsAsDecimal text → ParsesUnsigned 32 10 text read → IfSome (result_ok read) (λ number. text ≡ decimal_of number)
  unfolding decimal_of
  read_is_decimal text (Ok value) is parses =
      let own = numerals_by_value (AllDigits 10) tells_digits in
      let told = parse_plain own {E = E} 32 text (Ok value) parses (no_plus text is) in
      sym (decimal-digits_value own text told.0.0 told.0.1 (no_zero text is) (omega (arith, told.0.2))) ∙ ap decimal (sym told.1)
  read_is_decimal text (Err error) is parses = tt

  pub decimal_is_read : (text : List ℕ) (read : Result ℕ E) → ParsesUnsigned 32 10 text read → IfNone (result_ok read) ((number : ℕ) → number < 2 ^ 32 → text ≡ decimal_of number → ⊥)
  unfolding decimal_of
  decimal_is_read text (Ok value) parses = tt
  decimal_is_read text (Err error) parses = λ number small is. ok_is_no_err error number (parse-decimal 32 number text (Err error) small (omega arith) is parses)
