-- A `delete` statement: `delete`, a type, maybe a pick in brackets, and `;`. (MPW Rez.)
use Rattle.std.specs.Prelude.{◌≡◌, ℕ, true, List, Option}
use Rattle.rz_words.specs.declared.keyword.Keyword.TheVariants as keywords
use Rattle.rz_lex.specs.declared.token.Token.{Token}
use Rattle.rz_stmt_brackets.specs.Statements.{is_empty}
use Rattle.rz_stmt_lists.specs.Clause.{IsClause}
use Rattle.rz_stmt_lists.specs.Pick.{pick_of, IsPicked, Pick}
use Rattle.rz_stmt_lists.specs.declared.delete.DeleteStmt.{DeleteStmt}

pub record Delete : Type 0 where
  pub kind : ℕ
  pub pick : Pick

abbrev pub delete_of : DeleteStmt → Delete
delete_of stmt = record { kind = stmt.kind.code; pick = pick_of stmt.pick }

-- the tokens are this statement
pub record IsDelete (tokens : List Token) (delete : Delete) : Type 0 where
  pub inside : Option (List Token)
  pub rest : List Token
  pub clause : IsClause keywords.Delete tokens (record { kind = delete.kind; inside = inside; rest = rest })
  pub has_pick : IsPicked inside delete.pick
  pub ends : is_empty rest ≡ true
