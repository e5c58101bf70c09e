-- A `read` statement: `read`, a type, a head, a file, and `;`. (MPW Rez.)
use Rattle.std.specs.Prelude.{◌≡◌, ℕ, true, List, ◌++◌}
use Rattle.rz_words.specs.declared.keyword.Keyword.TheVariants as keywords
use Rattle.rz_lex.specs.declared.token.Token.{Token}
use Rattle.rz_stmt_brackets.specs.Bracket.{IsBracketed}
use Rattle.rz_stmt_brackets.specs.Pieces.{Parted}
use Rattle.rz_stmt_brackets.specs.Statements.{is_empty}
use Rattle.rz_stmt_brackets.specs.declared.bracket.Bracket.TheVariants.{Round}
use Rattle.rz_stmt_data.specs.Head.{head_of, Head}
use Rattle.rz_stmt_data.specs.declared.head.Subject.TheVariants.{New}
use Rattle.rz_stmt_data.specs.Files.{IsFile}
use Rattle.rz_stmt_data.specs.Typed.{IsTyped}
use Rattle.rz_stmt_lists.specs.Renaming.{IsHeadIn}
use Rattle.rz_stmt_lists.specs.declared.read.ReadStmt.{ReadStmt}

pub record Read : Type 0 where
  pub kind : ℕ
  pub head : Head
  pub file : List ℕ

abbrev pub read_of : ReadStmt → Read
read_of stmt = record { kind = stmt.kind.code; head = head_of stmt.head; file = stmt.file }

-- a file, and the `;` that ends the statement
pub record IsNamed (tokens : List Token) (name : List ℕ) : Type 0 where
  pub file : List Token
  pub rest : List Token
  pub are : tokens ≡ file ++ rest
  pub has_file : IsFile file name
  pub ends : is_empty rest ≡ true

-- the tokens are this statement
pub record IsRead (tokens : List Token) (read : Read) : Type 0 where
  pub behind : List Token
  pub parted : Parted
  pub typed : IsTyped keywords.Read tokens (record { kind = read.kind; behind = behind })
  pub in_brackets : IsBracketed Round behind parted
  pub has_head : IsHeadIn New parted.front read.head
  pub names : IsNamed parted.behind read.file
