-- How deep and how long a statement may be. (MPW Rez bounds both; the bounds are rezkit's.)
use Rattle.std.specs.Prelude.{◌++◌, not, ◌≤◌, ◌≡◌, ℕ, suc, nat_le, Bool, true, false, ◌&&◌, if◌then◌else◌, List, [], ◌∷◌}
use Rattle.rz_expr.specs.Keyword.{is_keyword}
use Rattle.rz_words.specs.declared.keyword.Keyword.TheVariants as keywords
use Rattle.rz_lex.specs.declared.sign.Sign.TheVariants.{CloseBrace, Comma, OpenBrace, Semicolon}
use Rattle.rz_lex.specs.declared.token.Shape.{Shape}
use Rattle.rz_lex.specs.declared.token.Shape.TheVariants as shapes
use Rattle.rz_lex.specs.declared.token.Token.{Token}
use Rattle.rz_stmt_brackets.specs.Statements.{open_behind, open_behind_all}

-- the most brackets that may be open in a `type` statement, and in any other
abbrev pub deepest_type : ℕ
deepest_type = 60

abbrev pub deepest : ℕ
deepest = 64

-- the most tokens in a row, texts not counted, without one of `{ } , ;`
abbrev pub longest_row : ℕ
longest_row = 1024

abbrev pub depth_limit : List Token → ℕ
depth_limit [] = deepest
depth_limit (first ∷ rest) = if is_keyword keywords.Kind first.shape then deepest_type else deepest

-- a row ends at one of these
abbrev pub ends_row : Shape → Bool
ends_row (shapes.Sign OpenBrace) = true
ends_row (shapes.Sign CloseBrace) = true
ends_row (shapes.Sign Comma) = true
ends_row (shapes.Sign Semicolon) = true
ends_row shape = false

abbrev pub is_text : Shape → Bool
is_text (shapes.Text bytes) = true
is_text shape = false

-- how long a row is after a token
abbrev pub row_behind : Shape → ℕ → ℕ
row_behind shape row = if ends_row shape then 0 else if is_text shape then row else suc row

-- after each token no more brackets are open than may be, and no row is longer; so many are open before, and a row has
-- so many tokens
abbrev pub keeps_limits : ℕ → ℕ → ℕ → List Token → Bool
keeps_limits most depth row [] = true
keeps_limits most depth row (token ∷ tokens) =
    nat_le (open_behind token.shape depth) most && (nat_le (row_behind token.shape row) longest_row
    && keeps_limits most (open_behind token.shape depth) (row_behind token.shape row) tokens)

-- a statement within its limits
abbrev pub is_within_limits : List Token → Bool
is_within_limits tokens = keeps_limits (depth_limit tokens) 0 0 tokens

-- In the words of the language.

-- tokens without one that ends a row
abbrev pub is_row : List Token → Bool
is_row [] = true
is_row (token ∷ tokens) = not (ends_row token.shape) && is_row tokens

-- how many of them are no texts
abbrev pub counted : List Token → ℕ
counted [] = 0
counted (token ∷ tokens) = if is_text token.shape then counted tokens else suc (counted tokens)

-- after no front of the tokens are more brackets open than may be, and no row among them is longer than it may be
pub record KeepsLimits (tokens : List Token) : Type 0 where
  pub shallow : (front behind : List Token) → tokens ≡ front ++ behind → open_behind_all front 0 ≤ depth_limit tokens
  pub short : (front row behind : List Token) → tokens ≡ front ++ (row ++ behind) → is_row row ≡ true → counted row ≤ longest_row
