-- The date and the time of a moment are those that `list` tells.
use Rattle.std.proofs.Common.{◌≡◌, ℕ, zero, suc, ◌+◌, ◌-◌, ◌*◌, ◌/◌, ◌%◌, ◌^◌, ◌<◌, ◌≤◌, ℤ, pos, negsuc, ◌+ℤ◌, true, false, ◌++◌, length, arith, length-append, refl, sym, ap, subst, ◌∙◌}
use Rattle.std.specs.Prelude.{nat_lt, ◌==◌, nat_abs, codes}
use Rattle.std.proofs.lemmas.Bool.Decides.{nat_tests}
use Rattle.std.proofs.lemmas.Fmt.{length-decimal-le}
use Rattle.std.proofs.lemmas.Int.{by_lt_z}
use Rattle.jiff_core.specs.Calendar.{days_in_month, days_of_months, day_count, days_from_civil, IsCivilDate}
use Rattle.jiff_core.proofs.CalendarLemmas.{day_count-day, day_count-day_of_year, day_count-last_of_year, day_count-later_year, day_count-lt_month, day_count-lt_year, day_count-next_month, day_count-next_year, days_from_civil-day_count, days_of_months_all, days_of_months_mono, days_of_months_more}
use Rattle.jiff_core.proofs.MarchLemmas.{day_count-early}
use Rattle.jiff_core.proofs.SignedLemmas.{signed_arith}
use Rattle.rz_core.proofs.Tests.{by_test}
use Rattle.rz_core.specs.Decimal.{decimal_of}
use Rattle.rz_core.specs.Moment.{seconds_of}
use Rattle.rz_told.specs.Date.{date_after, date_text, date_told, time_text, two_digits}

-- How long dates are.

two_size : (n : ℕ) → length (two_digits n) ≡ 2
two_size n = refl

text_size : (year month day : ℕ) → length (date_text year month day) ≡ 10
unfolding date_text
text_size year month day = refl

after_size : (months year month days : ℕ) → length (date_after months year month days) ≤ 10
unfolding date_after
after_size zero year month days = omega arith
after_size (suc months) year month days =
    by_test (length (date_after (suc months) year month days) ≤ 10) (nat_lt days (days_in_month (pos year) month))
    (λ h. rw h (omega (arith, text_size year month (days + 1))))
    (λ h. by_test (length (date_after (suc months) year month days) ≤ 10) (month == 12)
    (λ k. rw (h, k) (after_size months (year + 1) 1 (days - 31)))
    (λ k. rw (h, k) (after_size months year (month + 1) (days - days_in_month (pos year) month))))

time_size : (second : ℕ) → length (time_text second) ≡ 8
unfolding time_text
time_size second = refl

decimal_size : (n : ℕ) → n < 2 ^ 32 → length (decimal_of n) ≤ 10
unfolding decimal_of
decimal_size n small = length-decimal-le 10 n (omega arith) (omega (arith, small)) (omega (arith, small))

pub date_size : (seconds : ℕ) → seconds < 2 ^ 32 → length (date_told seconds) ≤ 20
unfolding date_told
date_size seconds small =
    let date = date_after 1632 1904 1 (seconds / 86400) in
    let time = time_text (seconds % 86400) in
    by_test (length (date_told seconds) ≤ 20) (seconds == 0)
    (λ h. rw h (omega arith))
    (λ h. by_test (length (date_told seconds) ≤ 20) (nat_lt seconds 4291833600)
    (λ k. rw (h, k) (omega (arith, length-append (date ++ codes " ") time, length-append date (codes " "), after_size 1632 1904 1 (seconds / 86400), time_size (seconds % 86400))))
    (λ k. rw (h, k) (omega (arith, decimal_size seconds small))))

-- Which date it is.

first_of_1904 : day_count (pos 1904) 1 1 ≡ 4347846
first_of_1904 = day_count-early (pos 1904) 11903 1 1 refl (omega arith) (omega arith) (omega arith)

first_of_2040 : day_count (pos 2040) 1 1 ≡ 4397520
first_of_2040 = day_count-early (pos 2040) 12039 1 1 refl (omega arith) (omega arith) (omega arith)

-- the first of a month lies so many days after the first of its year
first_of_month : (y : ℤ) (m : ℕ) → day_count y m 1 ≡ day_count y 1 1 + days_of_months y (m - 1)
first_of_month y m = omega (arith, day_count-day_of_year y m 1 (omega arith))

first_of_next_year : (year : ℕ) → day_count (pos (year + 1)) 1 1 ≡ day_count (pos year) 12 1 + 31
first_of_next_year year =
    let next : pos (year + 1) ≡ pos year +ℤ pos 1 = omega (arith, signed_arith) in
    omega (
      arith,
      day_count-next_year (pos year) (pos (year + 1)) (omega (arith, signed_arith)) next,
      day_count-last_of_year (pos year),
      day_count-day (pos year) 12 31 1 (omega arith) (omega arith),
    )

module _ (y : ℤ) (m d : ℕ) (civil : IsCivilDate y m d) where
  -- a date among the days of a month is of this month
  module _ (year month : ℕ) (first : 1 ≤ month) (last : month ≤ 12) (low : day_count (pos year) month 1 ≤ day_count y m d)
      (high : day_count y m d < day_count (pos year) month 1 + days_in_month (pos year) month) where
    in_year : y ≡ pos year
    in_year =
        by_lt_z y (pos year)
        (λ lt. absurd (omega (arith, day_count-lt_year y m d (pos year) month 1 civil (omega arith) lt, low)))
        (λ le. by_lt_z (pos year) y
        (λ lt. absurd (omega (
          arith,
          day_count-later_year (pos year) y (omega (arith, signed_arith)) lt,
          day_count-day_of_year y m d civil.2.0,
          first_of_month (pos year) month,
          days_of_months_more (pos year) month first,
          days_of_months_mono (pos year) month 12 last,
          days_of_months_all (pos year),
          civil.2.0,
          high,
        )))
        (λ ge. omega (arith, signed_arith)))

    in_month : m ≡ month
    in_month =
        let e = in_year in
        let low_here : day_count y month 1 ≤ day_count y m d = subst (λ (z : ℤ). day_count z month 1 ≤ day_count y m d) (sym e) low in
        let high_here : day_count y m d < day_count y month 1 + days_in_month y month = subst (λ (z : ℤ). day_count y m d < day_count z month 1 + days_in_month z month) (sym e) high in
        let not_before : month ≤ m = by_order m month (λ lt. absurd (omega (arith, day_count-lt_month y m d month 1 civil (omega arith) lt, low_here))) (λ le. le) in
        let not_after : m ≤ month = by_order month m
        (λ lt. absurd (omega (
          arith,
          day_count-day_of_year y m d civil.2.0,
          first_of_month y month,
          days_of_months_more y month first,
          days_of_months_mono y month (m - 1) (omega (arith, lt)),
          civil.2.0,
          high_here,
        )))
        (λ le. le) in
        omega (arith, not_before, not_after)
      where
        by_order : {P : Type 0} (a b : ℕ) → (a < b → P) → (b ≤ a → P) → P
        by_order {P} a b less more = by_test P (nat_lt a b) (λ h. less (grind (arith, nat_tests, h))) (λ h. more (grind (arith, nat_tests, h)))

  -- the date so many days after the first of a month
  pub dated : (months year month days : ℕ) → 1 ≤ month → month ≤ 12 → 12 * year + month + months ≡ 24481 → day_count (pos year) month 1 + days ≡ day_count y m d
      → day_count y m d < day_count (pos 2040) 1 1 → date_after months year month days ≡ date_text (nat_abs y) m d
  unfolding date_after
  dated zero year month days first last left is before =
      let one : month ≡ 1 = omega (arith, first, last, left) in
      let there : year ≡ 2040 = omega (arith, one, left) in
      absurd (omega (arith, (rw (one, there) at is), before))
  dated (suc months) year month days first last left is before =
      by_test (date_after (suc months) year month days ≡ date_text (nat_abs y) m d) (nat_lt days (days_in_month (pos year) month))
      (λ h. let few : days < days_in_month (pos year) month = grind (arith, nat_tests, h) in
      let low : day_count (pos year) month 1 ≤ day_count y m d = omega (arith, is) in
      let high : day_count y m d < day_count (pos year) month 1 + days_in_month (pos year) month = omega (arith, is, few) in
      let of_year = in_year year month first last low high in
      let of_month = in_month year month first last low high in
      let begins : day_count y m 1 ≡ day_count (pos year) month 1 = (λ i. day_count (of_year i) (of_month i) 1) in
      let of_day : d ≡ days + 1 = omega (arith, day_count-day y m d 1 civil.2.0 (omega arith), begins, is) in
      rw h (λ i. date_text (nat_abs (sym of_year i)) (sym of_month i) (sym of_day i)))
      (λ h. let many : days_in_month (pos year) month ≤ days = grind (arith, nat_tests, h) in
      by_test (date_after (suc months) year month days ≡ date_text (nat_abs y) m d) (month == 12)
      (λ k. let twelve : month ≡ 12 = grind (arith, nat_tests, k) in
      let enough : 31 ≤ days = rw twelve at many in
      rw (h, k) (dated months (year + 1) 1 (days - 31) (omega arith) (omega arith) (omega (arith, left, twelve))
      (omega (arith, first_of_next_year year, (rw twelve at is), enough)) before))
      (λ k. let other : (month == 12) ≡ false = k in
      let below : month < 12 = grind (arith, nat_tests, other, last) in
      rw (h, k) (dated months year (month + 1) (days - days_in_month (pos year) month) (omega arith) (omega (arith, below)) (omega (arith, left))
      (omega (arith, day_count-next_month (pos year) month first, is, many)) before)))

-- The time.

pub timed : (hour minute second : ℕ) → hour < 24 → minute < 60 → second < 60
    → time_text (hour * 3600 + minute * 60 + second) ≡ two_digits hour ++ codes ":" ++ two_digits minute ++ codes ":" ++ two_digits second
unfolding time_text
timed hour minute second h m s =
    let all = hour * 3600 + minute * 60 + second in
    let hours : all / 3600 ≡ hour = omega (arith, h, m, s) in
    let minutes : all / 60 % 60 ≡ minute = omega (arith, h, m, s) in
    let seconds : all % 60 ≡ second = omega (arith, h, m, s) in
    (λ i. two_digits (hours i) ++ codes ":" ++ two_digits (minutes i) ++ codes ":" ++ two_digits (seconds i))

-- Seconds.

-- the days and the seconds of the day that seconds after the first of 1904 are
parts_of : (seconds : ℕ) (y : ℤ) (m d hour minute second : ℕ) → hour < 24 → minute < 60 → second < 60
    → negsuc 2082844799 +ℤ pos seconds ≡ seconds_of (days_from_civil y m d) hour minute second
    → 4347846 * 86400 + seconds ≡ 86400 * day_count y m d + (hour * 3600 + minute * 60 + second)
parts_of seconds y m d hour minute second h mi s is = omega (arith, signed_arith, days_from_civil-day_count y m d, is)

pub none_told : (seconds : ℕ) → seconds ≡ 0 → date_told seconds ≡ codes "none"
unfolding date_told
none_told seconds none = rw none refl

pub late_told : (seconds : ℕ) → 4291833600 ≤ seconds → date_told seconds ≡ decimal_of seconds
unfolding date_told
late_told seconds late =
    let some : (seconds == 0) ≡ false = grind (arith, nat_tests) in
    let after : nat_lt seconds 4291833600 ≡ false = grind (arith, nat_tests) in
    rw (some, after) refl

pub moment_told : (seconds : ℕ) → 0 < seconds → seconds < 4291833600 → (y : ℤ) (m d hour minute second : ℕ) → IsCivilDate y m d → hour < 24 → minute < 60 → second < 60
    → negsuc 2082844799 +ℤ pos seconds ≡ seconds_of (days_from_civil y m d) hour minute second
    → date_told seconds ≡ date_text (nat_abs y) m d ++ codes " " ++ (two_digits hour ++ codes ":" ++ two_digits minute ++ codes ":" ++ two_digits second)
unfolding date_told
moment_told seconds some before y m d hour minute second civil h mi s is =
    let time = hour * 3600 + minute * 60 + second in
    let small : time < 86400 = omega (arith, h, mi, s) in
    let same : 4347846 * 86400 + seconds ≡ 86400 * day_count y m d + time = parts_of seconds y m d hour minute second h mi s is in
    let days : day_count (pos 1904) 1 1 + seconds / 86400 ≡ day_count y m d = omega (arith, first_of_1904, same, small) in
    let rest : seconds % 86400 ≡ time = omega (arith, same, small) in
    let limit : day_count y m d < day_count (pos 2040) 1 1 = omega (arith, first_of_1904, first_of_2040, days, before) in
    let there : (seconds == 0) ≡ false = grind (arith, nat_tests) in
    let early : nat_lt seconds 4291833600 ≡ true = grind (arith, nat_tests) in
    rw (there, early)
    (λ i. dated y m d civil 1632 1904 1 (seconds / 86400) (omega arith) (omega arith) (omega arith) days limit i ++ codes " "
    ++ (ap time_text rest ∙ timed hour minute second h mi s) i)

pub not_early : (seconds : ℕ) → (seconds < 4291833600 → ⊥) → 4291833600 ≤ seconds
not_early seconds none = by_test (4291833600 ≤ seconds) (nat_lt seconds 4291833600)
    (λ h. let early : seconds < 4291833600 = grind (arith, nat_tests, h) in absurd (none early))
    (λ h. grind (arith, nat_tests, h))
