-- What digits and numbers stand for. (MPW Rez.)
use Rattle.std.specs.Prelude.{ℕ, ◌+◌, ◌-◌, ◌*◌, ◌^◌, Bool, true, ◌||◌, ◌&&◌, nat_le, nat_lt, ◌==◌, if◌then◌else◌, List, [], ◌∷◌, length, Option, Some, None}

-- what a digit stands for, a hex digit in either case; 36 where the byte is no digit
abbrev pub digit_value : ℕ → ℕ
digit_value byte =
    if nat_le 48 byte && nat_le byte 57 then byte - 48
    else if nat_le 97 byte && nat_le byte 102 then byte - 87
    else if nat_le 65 byte && nat_le byte 70 then byte - 55
    else 36

-- each byte is a digit of this base
abbrev pub are_digits : ℕ → List ℕ → Bool
are_digits base [] = true
are_digits base (d ∷ ds) = nat_lt (digit_value d) base && are_digits base ds

-- the number that digits spell after a number
abbrev pub spelled_from : ℕ → ℕ → List ℕ → ℕ
spelled_from base number [] = number
spelled_from base number (d ∷ ds) = spelled_from base (base * number + digit_value d) ds

-- the number that digits spell, one at least, where it is below 2^32
abbrev pub digits_value : ℕ → List ℕ → Option ℕ
digits_value base ds =
    if nat_lt 0 (length ds) && are_digits base ds && nat_lt (spelled_from base 0 ds) (2 ^ 32)
    then Some (spelled_from base 0 ds)
    else None

-- after a 0: hex digits after `x`, binary digits after `b`, or octal digits
abbrev pub value_behind_0 : List ℕ → Option ℕ
value_behind_0 [] = Some 0
value_behind_0 (b ∷ bs) =
    if b == 120 || b == 88 then digits_value 16 bs
    else if b == 98 || b == 66 then digits_value 2 bs
    else digits_value 8 (b ∷ bs)

-- the value of a number, where it has a form and is below 2^32
abbrev pub number_value : List ℕ → Option ℕ
number_value [] = None
number_value (b ∷ bs) =
    if b == 36 then digits_value 16 bs
    else if b == 48 then value_behind_0 bs
    else digits_value 10 (b ∷ bs)
