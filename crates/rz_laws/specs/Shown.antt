-- What the pieces of a row are shown of names and of bits as the row is laid. (MPW Rez.)
use Rattle.std.specs.Prelude.{◌≡◌, Bool, List, [], ◌∷◌, Ok}
use Rattle.rz_core.specs.declared.facts.Facts.{Facts}
use Rattle.rz_expr.specs.Environment.{IsSeenIn}
use Rattle.rz_laws.specs.Flat.{step_drafted, Drafts, Lays, Step}
use Rattle.rz_types_fields.specs.Laid.{draft_sight, Draft}
use Rattle.rz_laws.specs.Placed.{seen_from, Placed}

-- a step that lays a piece lays the next of the placed pieces, and all that its expressions are shown is seen so from where it
-- stands in the end
abbrev pub IsNext : Facts → List Bool → Draft → Step → List Placed → List Placed → Type 0
IsNext known all draft (Lays piece value) pieces others =
    (one : Placed) × (pieces ≡ one ∷ others) × (one.piece ≡ piece) × (one.value ≡ value) × IsSeenIn (draft_sight known draft) (seen_from known all one)
IsNext known all draft step pieces others = pieces ≡ others

-- one step after the other, all of which are drafted
abbrev pub AreShown : Facts → List Bool → Drafts → List Step → List Placed → Type 0
AreShown known all drafts [] pieces = pieces ≡ []
AreShown known all drafts (step ∷ steps) pieces =
    (others : List Placed) × IsNext known all drafts.inner step pieces others
    × (next : Drafts) × (step_drafted known drafts step ≡ Ok next) × AreShown known all next steps others
