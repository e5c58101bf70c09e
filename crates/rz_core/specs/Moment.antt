-- Moments, and their date and time in UTC, by the calendar of today, before it was made too.
use Rattle.std.specs.Prelude.{◌≡◌, ℕ, ◌+◌, ◌*◌, ◌%◌, ◌<◌, ℤ, ◌+ℤ◌, ◌*ℤ◌, ◌≤ℤ◌, pos, negsuc}
use Rattle.jiff_core.specs.Calendar.{days_from_civil, weekday_number, IsCivilDate}

-- from the first second of 1904 to the last of 2039, counted from the first second of 1970
abbrev pub IsInRange : ℤ → Type 0
IsInRange seconds = (negsuc 2082844799 ≤ℤ seconds) × (seconds ≤ℤ pos 2208988799)

-- the seconds from the first second of 1970 to this time of this day, which counts from that date
abbrev pub seconds_of : ℤ → ℕ → ℕ → ℕ → ℤ
seconds_of day hour minute second = day *ℤ pos 86400 +ℤ pos (hour * 3600 + minute * 60 + second)

-- the day of the week; Sunday is 1
abbrev pub weekday_of : ℤ → ℕ
weekday_of day = (weekday_number day + 1) % 7 + 1

-- so many seconds after the first of 1970 it is this date, on this day of the week, and this time of day
abbrev pub IsCivil : ℤ → ℤ → ℕ → ℕ → ℕ → ℕ → ℕ → ℕ → Type 0
IsCivil unix year month day hour minute second weekday =
    IsCivilDate year month day × (hour < 24) × (minute < 60) × (second < 60)
    × (unix ≡ seconds_of (days_from_civil year month day) hour minute second) × (weekday ≡ weekday_of (days_from_civil year month day))
