-- Powers of two.
use Rattle.std.specs.Prelude.{◌^◌, ℤ, pos, negsuc, nat_lt, if◌then◌else◌, Option, Some, None}

-- 2 to the power of a count from 0 to 31
abbrev pub power_of : ℤ → Option ℤ
power_of (pos count) = if nat_lt count 32 then Some (pos (2 ^ count)) else None
power_of (negsuc n) = None
