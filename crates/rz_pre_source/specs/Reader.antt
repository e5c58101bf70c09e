-- How a list of tokens is read from its front.
use Rattle.std.specs.Prelude.{◌≡◌, List, [], ◌∷◌, Option, Some, None}
use Rattle.rz_lex.specs.declared.token.Token.{Token}

-- the first of these tokens is given, and the others are left; nothing is given exactly where there is none
abbrev pub GivesFirst : Option Token → List Token → List Token → Type 0
GivesFirst None tokens left = (tokens ≡ []) × (left ≡ [])
GivesFirst (Some token) tokens left = tokens ≡ token ∷ left
