-- What each step of the reader answers.
use Rattle.std.specs.Prelude.{◌≡◌, ℕ, suc, ◌<◌, ◌≤◌, Bool, true, false, if◌then◌else◌, nat_eq, List, [], ◌∷◌, ◌++◌, length, drop, Option, Some, None}
use Rattle.std.specs.Option.{is_some}
use Rattle.rz_lex.specs.declared.sign.Sign.{Sign}
use Rattle.rz_lex.specs.declared.sign.Sign.TheVariants as signs
use Rattle.rz_lex.specs.declared.token.Shape.{Shape}
use Rattle.rz_lex.specs.declared.token.Shape.TheVariants as shapes
use Rattle.rz_lex.specs.declared.token.Token.{Token}
use Rattle.rz_expr.specs.declared.expr.UnaryOp.{UnaryOp}
use Rattle.rz_expr.specs.declared.expr.UnaryOp.TheVariants as one
use Rattle.rz_expr.specs.declared.expr.BinaryOp.{BinaryOp}
use Rattle.rz_expr.specs.declared.operators.Frame.{Frame}
use Rattle.rz_expr.specs.Fronts.{ends, Reads}
use Rattle.rz_expr.specs.Grammar.{Start, After, Operates, Indexes, start_of, after_of, level_of, loosest, Derives}
use Rattle.rz_expr.specs.Term.{Term, OfOne}

-- the operator before an operand that a sign is
abbrev pub prefix_of : Sign → Option UnaryOp
prefix_of signs.Minus = Some one.Minus
prefix_of signs.Tilde = Some one.Complement
prefix_of signs.Bang = Some one.Not
prefix_of other = None

abbrev pub prefix_at : Shape → Option UnaryOp
prefix_at (shapes.Sign sign) = prefix_of sign
prefix_at other = None

-- how many operators stand before an operand
abbrev pub prefix_count : List Token → ℕ
prefix_count [] = 0
prefix_count (t ∷ ts) = if is_some (prefix_at t.shape) then suc (prefix_count ts) else 0

-- an operand after these operators
abbrev pub under : Option UnaryOp → Term → Term
under None e = e
under (Some op) e = OfOne op e

abbrev pub prefixed_term : List Token → Term → Term
prefixed_term [] e = e
prefixed_term (t ∷ ts) e = under (prefix_at t.shape) (prefixed_term ts e)

-- the operator between operands that a token is
abbrev pub operator_of : After → Option BinaryOp
operator_of (Operates op) = Some op
operator_of other = None

-- where it has this level
abbrev pub at_level : ℕ → Option BinaryOp → Option BinaryOp
at_level level None = None
at_level level (Some op) = if nat_eq (level_of op) level then Some op else None

abbrev pub operator_at : ℕ → List Token → Option BinaryOp
operator_at level [] = None
operator_at level (t ∷ ts) = at_level level (operator_of (after_of t.shape))

-- an index begins here
abbrev pub is_index : After → Bool
is_index Indexes = true
is_index other = false

abbrev pub index_at : List Token → Bool
index_at [] = false
index_at (t ∷ ts) = is_index (after_of t.shape)

-- what is open ends here
abbrev pub ends_at : Frame → List Token → Bool
ends_at frame [] = false
ends_at frame (t ∷ ts) = ends frame (after_of t.shape)

-- the tokens begin so
abbrev pub Begins : Start → List Token → Type 0
Begins start [] = ⊥
Begins start (t ∷ ts) = start_of t.shape ≡ start

-- so many tokens at the front are this expression of a level, which goes no further
pub record IsFront (level : ℕ) (ts : List Token) (n : ℕ) (e : Term) : Type 0 where
  pub some : 0 < n
  pub within : n ≤ length ts
  pub reads : Reads level ts (drop n ts) e

-- an expression, and after it the end of what is open
pub record Ended (frame : Frame) (ts rest : List Token) (e : Term) : Type 0 where
  pub front : List Token
  pub end : Token
  pub whole : ts ≡ front ++ end ∷ rest
  pub derives : Derives loosest front e
  pub ends : ends frame (after_of end.shape) ≡ true

pub record IsEnded (frame : Frame) (ts : List Token) (n : ℕ) (e : Term) : Type 0 where
  pub some : 0 < n
  pub within : n ≤ length ts
  pub ended : Ended frame ts (drop n ts) e
