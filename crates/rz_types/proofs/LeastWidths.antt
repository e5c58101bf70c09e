-- Least widths that are cut at 8 are as good.
use Rattle.std.proofs.Common.{◌≡◌, ℕ, min, Option, Some, None, refl, arith}
use Rattle.std.specs.Prelude.{option_map}
use Rattle.std.specs.Option.{unwrap_or}
use Rattle.rz_types_fields.specs.Width.{capped}

cut_capped : (n : ℕ) → min (min n 134217697) 8 ≡ min n 8
cut_capped n = omega arith

pub text_capped : (width : Option ℕ) (other : ℕ) → min (unwrap_or (option_map capped width) other) 8 ≡ min (unwrap_or width other) 8
text_capped None other = refl
text_capped (Some n) other = cut_capped n

-- the least of cases, with 8 where there is none
abbrev pub least_or : ℕ → Option ℕ → ℕ
least_or least None = least
least_or least (Some other) = min least other
