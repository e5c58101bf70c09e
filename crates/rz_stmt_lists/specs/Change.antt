-- A `change` statement: `change`, a type, maybe a pick in brackets, and after `to` what the picked resources become.
-- (MPW Rez.)
use Rattle.std.specs.Prelude.{ℕ, List, Option, option_map}
use Rattle.rz_words.specs.declared.keyword.Keyword.TheVariants as keywords
use Rattle.rz_lex.specs.declared.token.Token.{Token}
use Rattle.rz_stmt_data.specs.Head.{head_of, Head}
use Rattle.rz_stmt_lists.specs.Clause.{IsClause}
use Rattle.rz_stmt_lists.specs.Pick.{pick_of, IsPicked, Pick}
use Rattle.rz_stmt_lists.specs.Renaming.{IsRenaming}
use Rattle.rz_stmt_lists.specs.declared.change.ChangeStmt.{ChangeStmt}

pub record Change : Type 0 where
  pub kind : ℕ
  pub pick : Pick
  pub new_kind : ℕ
  pub head : Option Head

abbrev pub change_of : ChangeStmt → Change
change_of stmt = record { kind = stmt.kind.code; pick = pick_of stmt.pick; new_kind = stmt.new_kind.code; head = option_map head_of stmt.head }

-- the tokens are this statement
pub record IsChange (tokens : List Token) (change : Change) : Type 0 where
  pub inside : Option (List Token)
  pub rest : List Token
  pub clause : IsClause keywords.Change tokens (record { kind = change.kind; inside = inside; rest = rest })
  pub has_pick : IsPicked inside change.pick
  pub becomes : IsRenaming keywords.To change.pick rest (record { kind = change.new_kind; head = change.head })
