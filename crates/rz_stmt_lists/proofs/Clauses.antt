-- Tokens are one clause at most.
use Rattle.std.proofs.Common.{◌≡◌, List, subst}
use Rattle.rz_words.specs.declared.keyword.Keyword.{Keyword}
use Rattle.rz_lex.specs.declared.token.Token.{Token}
use Rattle.rz_stmt_data.proofs.InFront.{one_typed}
use Rattle.rz_stmt_data.specs.Typed.{IsTyped, Typed}
use Rattle.rz_stmt_lists.proofs.Maybes.{one_maybe}
use Rattle.rz_stmt_lists.specs.Brackets.{IsMaybe}
use Rattle.rz_stmt_lists.specs.Clause.{Clause, IsClause}

module _ (keyword : Keyword) (tokens : List Token) where
  -- the brackets stand after the type
  pub maybe_behind : (clause : Clause) → IsClause keyword tokens clause → (typed : Typed) → IsTyped keyword tokens typed → IsMaybe typed.behind clause.inside clause.rest
  maybe_behind clause is typed also =
      subst (λ (t : Typed). IsMaybe t.behind clause.inside clause.rest) (one_typed keyword tokens _ typed is.typed also) is.in_brackets

  pub one_clause : (a b : Clause) → IsClause keyword tokens a → IsClause keyword tokens b → a ≡ b
  one_clause a b is also =
      let typed = one_typed keyword tokens _ _ is.typed also.typed in
      let maybe = one_maybe also.behind a.inside b.inside a.rest b.rest (maybe_behind a is _ also.typed) also.in_brackets in
      λ i. record { kind = (typed i).kind; inside = maybe.0 i; rest = maybe.1 i }
