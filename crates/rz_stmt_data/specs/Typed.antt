-- A word and a type, which stand in front. (MPW Rez.)
use Rattle.std.specs.Prelude.{◌≡◌, ℕ, true, List, ◌∷◌, Some}
use Rattle.rz_expr.specs.Keyword.{is_keyword}
use Rattle.rz_words.specs.declared.keyword.Keyword.{Keyword}
use Rattle.rz_lex.specs.declared.token.Token.{Token}
use Rattle.rz_stmt_brackets.specs.Kind.{kind_in}
use Rattle.rz_stmt_data.specs.declared.typed.Typed as code

-- the type, and what stands after it
pub record Typed : Type 0 where
  pub kind : ℕ
  pub behind : List Token

abbrev pub typed_of : code.Typed → Typed
typed_of typed = record { kind = typed.kind.code; behind = typed.behind.now }

-- the tokens are the keyword, a type, and what stands after it
pub record IsTyped (keyword : Keyword) (tokens : List Token) (typed : Typed) : Type 0 where
  pub word : Token
  pub kind : Token
  pub are : tokens ≡ word ∷ kind ∷ typed.behind
  pub is_word : is_keyword keyword word.shape ≡ true
  pub has_kind : kind_in kind.shape ≡ Some typed.kind
