-- A date as `list` tells it, by the calendar of today and without a zone.
use Rattle.std.specs.Prelude.{ℕ, zero, suc, ◌+◌, ◌-◌, ◌/◌, ◌%◌, pos, nat_lt, ◌==◌, if◌then◌else◌, List, [], ◌∷◌, ◌++◌, codes}
use Rattle.jiff_core.specs.Calendar.{days_in_month}
use Rattle.rz_core.specs.DateText.{digit}
use Rattle.rz_core.specs.Decimal.{decimal_of}

-- the last two digits of a number
abbrev pub two_digits : ℕ → List ℕ
two_digits number = digit (number / 10) ∷ digit number ∷ []

-- `yyyy-mm-dd`
unfoldable pub date_text : (year month day : ℕ) → List ℕ
date_text year month day = two_digits (year / 100) ++ two_digits year ++ codes "-" ++ two_digits month ++ codes "-" ++ two_digits day

-- `hh:mm:ss`, so many seconds after midnight
unfoldable pub time_text : (second : ℕ) → List ℕ
time_text second = two_digits (second / 3600) ++ codes ":" ++ two_digits (second / 60 % 60) ++ codes ":" ++ two_digits (second % 60)

-- the date so many days after the first of a month, among the days of so many months
unfoldable pub date_after : (months year month days : ℕ) → List ℕ
date_after zero year month days = []
date_after (suc months) year month days =
    if nat_lt days (days_in_month (pos year) month) then date_text year month (days + 1)
    else if month == 12 then date_after months (year + 1) 1 (days - 31)
    else date_after months year (month + 1) (days - days_in_month (pos year) month)

-- The date and the time so many seconds after the first second of 1904. No seconds are no date, and from 2040 on the
-- seconds are told themselves. The years before it have 1632 months.
unfoldable pub date_told : (seconds : ℕ) → List ℕ
date_told seconds =
    if seconds == 0 then codes "none"
    else if nat_lt seconds 4291833600 then date_after 1632 1904 1 (seconds / 86400) ++ codes " " ++ time_text (seconds % 86400)
    else decimal_of seconds
