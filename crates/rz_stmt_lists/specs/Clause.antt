-- A word, a type, and brackets that may be left out. So `delete` and `change` begin, and so chosen resources are said
-- to become others. (MPW Rez.)
use Rattle.std.specs.Prelude.{ℕ, List, Option, option_map}
use Rattle.rz_words.specs.declared.keyword.Keyword.{Keyword}
use Rattle.rz_lex.specs.declared.token.Token.{Token}
use Rattle.rz_stmt_data.specs.Typed.{IsTyped}
use Rattle.rz_stmt_lists.specs.Brackets.{IsMaybe}
use Rattle.rz_stmt_lists.specs.declared.clause.Clause as code

-- the type, what stands in the brackets, where some are there, and what stands after
pub record Clause : Type 0 where
  pub kind : ℕ
  pub inside : Option (List Token)
  pub rest : List Token

abbrev pub clause_of : code.Clause → Clause
clause_of clause = record { kind = clause.kind.code; inside = option_map (λ inside. inside.now) clause.inside; rest = clause.behind.now }

-- the tokens are this clause, and its word is the keyword
pub record IsClause (keyword : Keyword) (tokens : List Token) (clause : Clause) : Type 0 where
  pub behind : List Token
  pub typed : IsTyped keyword tokens (record { kind = clause.kind; behind = behind })
  pub in_brackets : IsMaybe behind clause.inside clause.rest
