-- Pieces, each of which is something.
use Rattle.std.specs.Prelude.{◌≡◌, List, [], ◌∷◌}
use Rattle.rz_lex.specs.declared.token.Token.{Token}

abbrev pub AreEach : {X : Type 0} → (List Token → X → Type 0) → List (List Token) → List X → Type 0
AreEach Is [] all = all ≡ []
AreEach Is (piece ∷ pieces) all = (first : _) × (rest : List _) × Is piece first × AreEach Is pieces rest × (all ≡ first ∷ rest)
