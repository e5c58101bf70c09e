-- What may stand in brackets, or be left out with them.
use Rattle.std.specs.Prelude.{◌≡◌, false, List, Option, Some, None}
use Rattle.rz_lex.specs.declared.token.Token.{Token}
use Rattle.rz_stmt_brackets.specs.Bracket.{begins, IsBracketed}
use Rattle.rz_stmt_brackets.specs.Pieces.{Parted}
use Rattle.rz_stmt_brackets.specs.declared.bracket.Bracket.TheVariants.{Round}

-- the tokens are what stands inside brackets, where some are there, and what stands after
pub data IsMaybe (tokens : List Token) (inside : Option (List Token)) (rest : List Token) : Type 0 where
  left_out : begins Round tokens ≡ false → inside ≡ None → rest ≡ tokens → IsMaybe tokens inside rest
  given : (parted : Parted) → IsBracketed Round tokens parted → inside ≡ Some parted.front → rest ≡ parted.behind → IsMaybe tokens inside rest
