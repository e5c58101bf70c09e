-- Numbers in decimal.
use Rattle.std.specs.Prelude.{ℕ, ℤ, List}
use Rattle.std.specs.Fmt.{decimal, signed_decimal}

-- the digits of a number, without leading zeros
unfoldable pub decimal_of : ℕ → List ℕ
decimal_of number = decimal number

-- the same, with a minus sign where the number is negative
unfoldable pub signed_of : ℤ → List ℕ
signed_of number = signed_decimal number
