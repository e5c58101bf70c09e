-- The tokens of a program as statements: each ends with a `;` that stands outside all brackets. (MPW Rez.)
use Rattle.std.specs.Prelude.{◌≡◌, ◌≢◌, ◌⊎◌, ℕ, ◌+◌, ◌-◌, Bool, true, false, ◌==◌, ◌&&◌, ◌||◌, List, [], ◌∷◌, ◌++◌, length}
use Rattle.rz_lex.specs.declared.sign.Sign.TheVariants.{CloseBrace, CloseBracket, CloseParen, OpenBrace, OpenBracket, OpenParen, Semicolon}
use Rattle.rz_lex.specs.declared.token.Shape.{Shape}
use Rattle.rz_lex.specs.declared.token.Shape.TheVariants as shapes
use Rattle.rz_lex.specs.declared.token.Token.{Token}
use Rattle.rz_stmt_brackets.specs.declared.span.Span.{Span}

-- how many brackets are open after a token; one that closes none changes nothing
abbrev pub open_behind : Shape → ℕ → ℕ
open_behind (shapes.Sign OpenParen) count = count + 1
open_behind (shapes.Sign OpenBracket) count = count + 1
open_behind (shapes.Sign OpenBrace) count = count + 1
open_behind (shapes.Sign CloseParen) count = count - 1
open_behind (shapes.Sign CloseBracket) count = count - 1
open_behind (shapes.Sign CloseBrace) count = count - 1
open_behind shape count = count

-- and after several tokens
abbrev pub open_behind_all : List Token → ℕ → ℕ
open_behind_all [] count = count
open_behind_all (token ∷ tokens) count = open_behind_all tokens (open_behind token.shape count)

abbrev pub is_semicolon : Shape → Bool
is_semicolon (shapes.Sign Semicolon) = true
is_semicolon shape = false

-- a `;` alone
abbrev pub is_empty : List Token → Bool
is_empty (token ∷ []) = is_semicolon token.shape
is_empty tokens = false

-- the token is a `;` that stands outside all brackets
abbrev pub is_end : Shape → ℕ → Bool
is_end shape count = is_semicolon shape && (count == 0)

-- such a token is among these, where so many brackets are open before
abbrev pub has_end : ℕ → List Token → Bool
has_end count [] = false
has_end count (token ∷ tokens) = is_end token.shape count || has_end (open_behind token.shape count) tokens

-- a statement: none of its tokens ends it but the last
pub record IsStatement (tokens : List Token) : Type 0 where
  pub front : List Token
  pub last : Token
  pub are : tokens ≡ front ++ last ∷ []
  pub goes_on : has_end 0 front ≡ false
  pub ends : is_end last.shape (open_behind_all front 0) ≡ true

-- a rest: some tokens, none of which ends a statement
pub record IsRest (tokens : List Token) : Type 0 where
  pub some : tokens ≢ []
  pub goes_on : has_end 0 tokens ≡ false

-- the tokens are these statements, one after the other; a rest is the last of them
abbrev pub AreStatements : List Token → List (List Token) → Type 0
AreStatements tokens [] = tokens ≡ []
AreStatements tokens (statement ∷ statements) =
    (behind : List Token) × (tokens ≡ statement ++ behind)
    × ((IsStatement statement × AreStatements behind statements) ⊎ (IsRest statement × (behind ≡ []) × (statements ≡ [])))

-- where they stand, when the first begins at this position
abbrev pub spans_from : ℕ → List (List Token) → List Span
spans_from start [] = []
spans_from start (statement ∷ statements) =
    record { start = start; end = start + length statement } ∷ spans_from (start + length statement) statements

-- the tokens are statements that stand there
abbrev pub HasSpans : List Token → List Span → Type 0
HasSpans tokens spans = (statements : List (List Token)) × AreStatements tokens statements × (spans ≡ spans_from 0 statements)
