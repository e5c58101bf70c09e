-- What chosen resources become: a word, a type, and maybe a head in brackets. (MPW Rez.)
use Rattle.std.specs.Prelude.{◌≡◌, ℕ, true, List, Option, Some, None, option_map}
use Rattle.rz_words.specs.declared.keyword.Keyword.{Keyword}
use Rattle.rz_lex.specs.declared.token.Token.{Token}
use Rattle.rz_stmt_brackets.specs.Pieces.{AreCut}
use Rattle.rz_stmt_brackets.specs.Statements.{is_empty}
use Rattle.rz_stmt_brackets.specs.declared.pieces.Divider.TheVariants.{Comma}
use Rattle.rz_stmt_data.specs.Head.{head_of, Head, IsHeadFor}
use Rattle.rz_stmt_data.specs.declared.head.Subject.{Subject}
use Rattle.rz_stmt_data.specs.declared.head.Subject.TheVariants.{Chosen}
use Rattle.rz_stmt_lists.specs.Clause.{IsClause}
use Rattle.rz_stmt_lists.specs.Pick.{picks_one, Pick}
use Rattle.rz_stmt_lists.specs.declared.renaming.Renaming as code

pub record Renaming : Type 0 where
  pub kind : ℕ
  pub head : Option Head

abbrev pub renaming_of : code.Renaming → Renaming
renaming_of renaming = record { kind = renaming.kind.code; head = option_map head_of renaming.head }

-- what stands in the brackets of a head, cut at its commas
abbrev pub IsHeadIn : Subject → List Token → Head → Type 0
IsHeadIn subject tokens head = (pieces : List (List Token)) × AreCut Comma tokens pieces × IsHeadFor subject pieces head

-- a head needs a pick of one id or one name; where it is left out, each resource keeps its own
abbrev pub IsNewHead : Pick → Option (List Token) → Option Head → Type 0
IsNewHead pick None head = head ≡ None
IsNewHead pick (Some tokens) head = (picks_one pick ≡ true) × (new : Head) × IsHeadIn Chosen tokens new × (head ≡ Some new)

-- the word, a type, maybe a head, and the `;` that ends the statement
pub record IsRenaming (keyword : Keyword) (pick : Pick) (tokens : List Token) (renaming : Renaming) : Type 0 where
  pub inside : Option (List Token)
  pub rest : List Token
  pub clause : IsClause keyword tokens (record { kind = renaming.kind; inside = inside; rest = rest })
  pub has_head : IsNewHead pick inside renaming.head
  pub ends : is_empty rest ≡ true
