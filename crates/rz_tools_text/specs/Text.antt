-- The text of resources, as they follow each other. (MPW DeRez.)
use Rattle.std.specs.Prelude.{◌≡◌, ℕ, List, [], ◌∷◌, ◌++◌}
use Rattle.rz_core.specs.declared.resource.Resource.{Resource}
use Rattle.rz_tools_text.specs.Shown.{Known, Shown}

-- the text shows each of these resources, one after the other
abbrev pub ShowsEach : Known → List Resource → List ℕ → Type 0
ShowsEach known [] text = text ≡ []
ShowsEach known (r ∷ rs) text = (front behind : List ℕ) × (text ≡ front ++ behind) × Shown known r front × ShowsEach known rs behind
