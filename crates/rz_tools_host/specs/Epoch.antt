-- The moment that a text tells.
use Rattle.std.specs.Prelude.{◌≡◌, ℕ, ℤ, pos, negsuc, List}
use Rattle.rz_core.specs.Decimal.{decimal_of}
use Rattle.rz_core.specs.Moment.{IsInRange}

-- the text is the decimal of these seconds, which are in the range of moments
abbrev pub Tells : List ℕ → ℤ → Type 0
Tells text (pos seconds) = (text ≡ decimal_of seconds) × IsInRange (pos seconds)
Tells text (negsuc seconds) = ⊥
