-- The table of digits.
use Rattle.std.proofs.Common.{◌≡◌, ℕ, ◌<◌, ◌==◌, Bool, true, get_or, refl}
use Rattle.std.proofs.lemmas.Bool.{agree_below_at, eqb-true}
use Rattle.rz_lex.specs.Digits.{digit_value}
use Rattle.rz_lex.specs.declared.digits.TheConstants.{DIGITS}

agrees : ℕ → Bool
agrees byte = get_or DIGITS byte 0 == digit_value byte

all_agree : (byte : ℕ) → byte < 256 → agrees byte ≡ true
unfolding agrees
all_agree byte small = agree_below_at agrees (λ k. true) 256 byte refl small

pub table_is : (byte : ℕ) → byte < 256 → get_or DIGITS byte 0 ≡ digit_value byte
unfolding agrees
table_is byte small = eqb-true (get_or DIGITS byte 0) (digit_value byte) (all_agree byte small)
