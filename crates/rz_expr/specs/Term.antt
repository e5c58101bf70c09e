-- Expressions as contracts see them, without where their parts lie in memory.
use Rattle.std.specs.Prelude.{ℕ, ℤ, List}
use Rattle.rz_expr.specs.declared.expr.UnaryOp.{UnaryOp}
use Rattle.rz_expr.specs.declared.expr.BinaryOp.{BinaryOp}
use Rattle.rz_expr.specs.declared.expr.Expr.{Expr}
use Rattle.rz_expr.specs.declared.expr.Expr.TheVariants.{Number, Name, Indexed', Count, ArrayIndex, Bits', Fact, Unary', Binary'}
use Rattle.rz_words.specs.declared.words.FactWord.{FactWord}

pub data Term : Type 0 where
  Constant : ℤ → Term
  Named : List ℕ → Term
  Indexed : List ℕ → Term → Term
  RowsOf : List ℕ → Term
  RowNumber : List ℕ → Term
  BitsAt : List ℕ → Term → Term → Term
  FactOf : FactWord → Term
  OfOne : UnaryOp → Term → Term
  OfTwo : BinaryOp → Term → Term → Term

-- the term that an expression is
abbrev pub term_of : Expr → Term
term_of (Number n) = Constant n
term_of (Name word) = Named word.bytes
term_of (Indexed' word p index) = Indexed word.bytes (term_of index)
term_of (Count word) = RowsOf word.bytes
term_of (ArrayIndex word) = RowNumber word.bytes
term_of (Bits' word p start q width) = BitsAt word.bytes (term_of start) (term_of width)
term_of (Fact which) = FactOf which
term_of (Unary' op p operand) = OfOne op (term_of operand)
term_of (Binary' op p left q right) = OfTwo op (term_of left) (term_of right)
