-- The moment that a clock tells.
use Rattle.std.specs.Prelude.{◌≡◌, ◌⊎◌, ℤ, negsuc, Option, Some, None}
use Rattle.rz_core.specs.Moment.{IsInRange}
use Rattle.rz_core.specs.declared.moment.Moment.{Moment}

-- the first second of 1904
abbrev pub first_second : ℤ
first_second = negsuc 2082844799

-- the moment of these seconds where they are in range, and else the first second of 1904; so too where none are told
abbrev pub IsMomentAt : Option ℤ → Moment → Type 0
IsMomentAt None moment = moment.unix ≡ first_second
IsMomentAt (Some seconds) moment = (IsInRange seconds × (moment.unix ≡ seconds)) ⊎ ((IsInRange seconds → ⊥) × (moment.unix ≡ first_second))
