-- A statement over lists of resources, by its first word. (MPW Rez.)
use Rattle.std.specs.Prelude.{◌≡◌, true, List, ◌∷◌}
use Rattle.rz_expr.specs.Keyword.{is_keyword}
use Rattle.rz_words.specs.declared.keyword.Keyword.{Keyword}
use Rattle.rz_words.specs.declared.keyword.Keyword.TheVariants as keywords
use Rattle.rz_lex.specs.declared.token.Token.{Token}
use Rattle.rz_stmt_lists.specs.Change.{change_of, Change, IsChange}
use Rattle.rz_stmt_lists.specs.Delete.{delete_of, Delete, IsDelete}
use Rattle.rz_stmt_lists.specs.Include.{include_of, Include, IsInclude}
use Rattle.rz_stmt_lists.specs.Read.{read_of, IsRead, Read}
use Rattle.rz_stmt_lists.specs.declared.lists.ListStmt.{ListStmt}
use Rattle.rz_stmt_lists.specs.declared.lists.ListStmt.TheVariants as stmts

pub data ListForm : Type 0 where
  Includes : (include : Include) → ListForm
  Reads : (read : Read) → ListForm
  Changes : (change : Change) → ListForm
  Deletes : (delete : Delete) → ListForm

abbrev pub list_of : ListStmt → ListForm
list_of (stmts.Include stmt) = Includes (include_of stmt)
list_of (stmts.Read stmt) = Reads (read_of stmt)
list_of (stmts.Change stmt) = Changes (change_of stmt)
list_of (stmts.Delete stmt) = Deletes (delete_of stmt)

-- the tokens are this statement
pub data IsListed (tokens : List Token) (one : ListForm) : Type 0 where
  includes : (include : Include) → IsInclude tokens include → one ≡ Includes include → IsListed tokens one
  reads : (read : Read) → IsRead tokens read → one ≡ Reads read → IsListed tokens one
  changes : (change : Change) → IsChange tokens change → one ≡ Changes change → IsListed tokens one
  deletes : (delete : Delete) → IsDelete tokens delete → one ≡ Deletes delete → IsListed tokens one

-- the word that such a statement begins with
abbrev pub word_of : ListForm → Keyword
word_of (Includes include) = keywords.Include
word_of (Reads read) = keywords.Read
word_of (Changes change) = keywords.Change
word_of (Deletes delete) = keywords.Delete

abbrev pub BeginsWith : Keyword → List Token → Type 0
BeginsWith keyword tokens = (word : Token) × (rest : List Token) × (tokens ≡ word ∷ rest) × (is_keyword keyword word.shape ≡ true)
