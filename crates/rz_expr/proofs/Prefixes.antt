-- Operators before an operand, from the last one on.
use Rattle.std.proofs.Common.{◌≡◌, List, [], ◌∷◌, ◌++◌, refl, ap}
use Rattle.rz_lex.specs.declared.token.Token.{Token}
use Rattle.rz_expr.specs.Reading.{prefix_at, prefixed_term, under}
use Rattle.rz_expr.specs.Term.{Term}

pub last_prefix : (ts : List Token) (t : Token) (e : Term) → prefixed_term (ts ++ t ∷ []) e ≡ prefixed_term ts (under (prefix_at t.shape) e)
last_prefix [] t e = refl
last_prefix (x ∷ ts) t e = ap (under (prefix_at x.shape)) (last_prefix ts t e)
