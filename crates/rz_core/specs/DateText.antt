-- The date and the time of a moment as texts. (MPW Rez.)
use Rattle.std.specs.Prelude.{ℕ, ◌+◌, ◌/◌, ◌%◌, nat_abs, List, [], ◌∷◌}
use Rattle.rz_core.specs.declared.moment.Moment.{Moment}

-- the last digit of a number
abbrev pub digit : ℕ → ℕ
digit number = 48 + number % 10

-- `yyyy-mm-dd`
abbrev pub date_text : Moment → List ℕ
date_text moment =
    digit (nat_abs moment.year / 1000) ∷ digit (nat_abs moment.year / 100) ∷ digit (nat_abs moment.year / 10) ∷ digit (nat_abs moment.year)
    ∷ 45 ∷ digit (moment.month / 10) ∷ digit moment.month ∷ 45 ∷ digit (moment.day / 10) ∷ digit moment.day ∷ []

-- `hh:mm:ss`
abbrev pub time_text : Moment → List ℕ
time_text moment =
    digit (moment.hour / 10) ∷ digit moment.hour ∷ 58 ∷ digit (moment.minute / 10) ∷ digit moment.minute
    ∷ 58 ∷ digit (moment.second / 10) ∷ digit moment.second ∷ []
