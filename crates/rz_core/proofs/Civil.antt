-- What a datetime of the calendar shows of a moment, and that each moment has one.
use Rattle.std.proofs.Common.{arith, ◌≡◌, ℕ, ◌<◌, ◌*ℤ◌, ℤ, pos, ◌∙◌, sym, ap}
use Rattle.jiff_core.proofs.DateLemmas.{epoch_day_injective}
use Rattle.jiff_core.proofs.DateTimeLemmas.{civil_nanos-parts}
use Rattle.jiff_core.specs.Date.{epoch_day}
use Rattle.jiff_core.specs.declared.civil.date.Date.{Date}
use Rattle.jiff_core.specs.DateTime.{civil_nanos}
use Rattle.jiff_core.specs.declared.civil.datetime.DateTime.{DateTime}
use Rattle.jiff_core.proofs.SignedLemmas.{signed_arith}
use Rattle.rz_core.specs.Moment.{seconds_of, weekday_of}
use Rattle.rz_core.specs.declared.moment.Moment.{Moment}

-- whole seconds are those of the date and the time
pub whole_seconds : (shown : DateTime) (seconds : ℤ) → civil_nanos shown ≡ seconds *ℤ pos 1000000000
    → seconds ≡ seconds_of (epoch_day shown.date) shown.time.hour shown.time.minute shown.time.second
whole_seconds shown seconds same =
    let below : shown.time.subsec_nanosecond < 1000000000 = shown.time.subsec_in in
    let parts = sym (civil_nanos-parts shown) ∙ same in
    omega (arith, signed_arith, parts, below)

-- the date of a moment
abbrev date_of : Moment → Date
date_of moment = record {
  year = moment.year;
  month = moment.month;
  day = moment.day;
  year_in = moment.civil.0.0;
  month_in = moment.civil.0.1;
  day_in = moment.civil.0.2;
}

-- seconds are of one day, and of one time of it
one_day : (day day₂ : ℤ) (hour minute second hour₂ minute₂ second₂ : ℕ) → hour < 24 → minute < 60 → second < 60 → hour₂ < 24 → minute₂ < 60 → second₂ < 60
    → seconds_of day hour minute second ≡ seconds_of day₂ hour₂ minute₂ second₂ → day ≡ day₂
one_day day day₂ hour minute second hour₂ minute₂ second₂ a b c a₂ b₂ c₂ same = omega (arith, signed_arith)

one_time : (day : ℤ) (hour minute second hour₂ minute₂ second₂ : ℕ) → hour < 24 → minute < 60 → second < 60 → hour₂ < 24 → minute₂ < 60 → second₂ < 60
    → seconds_of day hour minute second ≡ seconds_of day hour₂ minute₂ second₂ → (hour ≡ hour₂) × (minute ≡ minute₂) × (second ≡ second₂)
one_time day hour minute second hour₂ minute₂ second₂ a b c a₂ b₂ c₂ same =
    (omega (arith, signed_arith), omega (arith, signed_arith), omega (arith, signed_arith))

-- moments of one second are of one day
same_seconds : (one other : Moment) → one.unix ≡ other.unix
    → seconds_of (epoch_day (date_of one)) one.hour one.minute one.second ≡ seconds_of (epoch_day (date_of other)) other.hour other.minute other.second
same_seconds one other same = sym one.civil.4 ∙ same ∙ other.civil.4

same_day : (one other : Moment) → one.unix ≡ other.unix → epoch_day (date_of one) ≡ epoch_day (date_of other)
same_day one other same =
    one_day (epoch_day (date_of one)) (epoch_day (date_of other)) one.hour one.minute one.second other.hour other.minute other.second one.civil.1 one.civil.2 one.civil.3 other.civil.1 other.civil.2 other.civil.3 (same_seconds one other same)

pub same_date : (one other : Moment) → one.unix ≡ other.unix → (one.year ≡ other.year) × (one.month ≡ other.month) × (one.day ≡ other.day) × (one.weekday ≡ other.weekday)
same_date one other same =
    let day = same_day one other same in
    let date = epoch_day_injective (date_of one) (date_of other) day in
    (date.0, date.1, date.2, one.civil.5 ∙ ap weekday_of day ∙ sym other.civil.5)

pub same_time : (one other : Moment) → one.unix ≡ other.unix → (one.hour ≡ other.hour) × (one.minute ≡ other.minute) × (one.second ≡ other.second)
same_time one other same =
    let seconds = same_seconds one other same ∙ ap (λ (day : ℤ). seconds_of day other.hour other.minute other.second) (sym (same_day one other same)) in
    one_time (epoch_day (date_of one)) one.hour one.minute one.second other.hour other.minute other.second one.civil.1 one.civil.2 one.civil.3 other.civil.1 other.civil.2 other.civil.3 seconds
