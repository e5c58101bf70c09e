-- What is known of expressions: tokens are one at most.
use Rattle.std.proofs.Common.{◌≡◌, List}
use Rattle.rz_expr.specs.Grammar.{IsExpression}
use Rattle.rz_expr.specs.Term.{Term}
use Rattle.rz_lex.specs.declared.token.Token.{Token}

abbrev pub OneExpression : Type 0
OneExpression = (ts : List Token) (e other : Term) → IsExpression ts e → IsExpression ts other → e ≡ other
