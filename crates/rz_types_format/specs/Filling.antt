-- What the code holds of a text that is filled, against what the text gives.
use Rattle.std.specs.Prelude.{ℕ, if◌then◌else◌, List, ◌∷◌, Option, Some}
use Rattle.std.specs.Fmt.{◌++?◌}
use Rattle.rz_types_format.specs.Format.{formatted}
use Rattle.rz_types_format.specs.declared.format.Filling.{Filling}

-- what the whole text gives, where these bytes are what is not yet filled of it
abbrev pub given_behind : Filling → List ℕ → Option (List ℕ)
given_behind filling text = Some filling.bytes ++? formatted text filling.arguments.now

-- what the whole text gives, where this is its rest; a percent sign that begins a conversion stands before it
abbrev pub given : Filling → List ℕ → Option (List ℕ)
given filling rest = given_behind filling (if filling.percent then 37 ∷ rest else rest)
