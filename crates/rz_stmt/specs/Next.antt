-- The first of the statements of tokens.
use Rattle.std.specs.Prelude.{◌≡◌, ◌<◌, List, [], ◌∷◌, ◌++◌, length, Option, Some, None}
use Rattle.rz_stmt_brackets.specs.Statements.{AreStatements}
use Rattle.rz_lex.specs.declared.token.Token.{Token}

-- the tokens that were given are the first of these statements, and those that are left are the others; none were
-- given exactly where there is no statement
abbrev pub BeginsWith : Option (List Token) → List (List Token) → List Token → Type 0
BeginsWith None statements left = statements ≡ []
BeginsWith (Some tokens) statements left = (others : List (List Token)) × (statements ≡ tokens ∷ others) × AreStatements left others

-- the tokens that were given stand before those that are left, and some were given; none were given exactly where
-- there is no token
abbrev pub IsFront : Option (List Token) → List Token → List Token → Type 0
IsFront None tokens left = (tokens ≡ []) × (left ≡ [])
IsFront (Some front) tokens left = (tokens ≡ front ++ left) × (length left < length tokens)
