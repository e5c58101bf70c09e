-- A `resource` statement: `resource`, a type, a head, items in braces, and `;`. (MPW Rez.)
use Rattle.std.specs.Prelude.{ℕ, List}
use Rattle.rz_words.specs.declared.keyword.Keyword.TheVariants as keywords
use Rattle.rz_lex.specs.declared.token.Token.{Token}
use Rattle.rz_stmt_data.specs.Frame.{IsFrame}
use Rattle.rz_stmt_data.specs.Head.{head_of, Head}
use Rattle.rz_stmt_items.specs.Item.{plain_items, PlainItem}
use Rattle.rz_stmt_items.specs.Items.{AreItems}
use Rattle.rz_stmt_items.specs.declared.compile.ResourceStmt.{ResourceStmt}

pub record Compile : Type 0 where
  pub kind : ℕ
  pub head : Head
  pub items : List PlainItem

abbrev pub compile_of : ResourceStmt → Compile
compile_of stmt = record { kind = stmt.kind.code; head = head_of stmt.head; items = plain_items stmt.items }

-- the tokens are this statement: the frame of a resource, and the items in its braces
pub record IsCompile (tokens : List Token) (compile : Compile) : Type 0 where
  pub inside : List Token
  pub frame : IsFrame keywords.Resource tokens (record { kind = compile.kind; head = compile.head; inside = inside })
  pub items : AreItems inside compile.items
