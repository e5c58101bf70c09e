-- The grammar of expressions over lists of tokens. (MPW Rez.)
use Rattle.std.specs.Prelude.{◌≡◌, ◌≢◌, ℕ, suc, ◌+◌, ◌*◌, pos, Bool, true, false, ◌&&◌, if◌then◌else◌, List, [], ◌∷◌, ◌++◌, Option, Some, None}
use Rattle.rz_core.specs.declared.resource.Word.{Word}
use Rattle.rz_lex.specs.declared.sign.Sign.{Sign}
use Rattle.rz_lex.specs.declared.sign.Sign.TheVariants as signs
use Rattle.rz_lex.specs.declared.token.Shape.{Shape}
use Rattle.rz_lex.specs.declared.token.Shape.TheVariants as shapes
use Rattle.rz_lex.specs.declared.token.Token.{Token}
use Rattle.rz_expr.specs.declared.expr.UnaryOp.{UnaryOp}
use Rattle.rz_expr.specs.declared.expr.UnaryOp.TheVariants as one
use Rattle.rz_expr.specs.declared.expr.BinaryOp.{BinaryOp}
use Rattle.rz_expr.specs.declared.expr.BinaryOp.TheVariants as two
use Rattle.rz_words.specs.declared.words.Function.{Function}
use Rattle.rz_words.specs.declared.words.Function.TheVariants.{CountOf, ArrayIndex, BitField, Data}
use Rattle.rz_words.specs.declared.words.Role.{Role}
use Rattle.rz_words.specs.declared.words.Role.TheVariants as roles
use Rattle.rz_expr.specs.Term.{Term, Constant, Named, Indexed, RowsOf, RowNumber, BitsAt, FactOf, OfOne, OfTwo}
use Rattle.rz_expr.specs.Value.{reduced}
use Rattle.rz_words.specs.Words.{is_label, is_name, role_of}

-- What a token is where an operand may begin.

pub data Start : Type 0 where
  Operand : Term → Start  -- an operand by itself
  Label : List ℕ → Start  -- a label, behind which an index may follow
  Prefix : UnaryOp → Start  -- an operator before an operand
  Bracket : Start  -- `(`
  Calls : Function → Start  -- a function, whose name in brackets follows
  NoStart : Start

-- the number whose digits to the base 256 these bytes are, after a number
abbrev pub bytes_number : ℕ → List ℕ → ℕ
bytes_number number [] = number
bytes_number number (b ∷ bs) = bytes_number (256 * number + b) bs

-- a word
abbrev pub word_start : Role → List ℕ → Start
word_start roles.Label name = Label name
word_start roles.OtherName name = Operand (Named name)
word_start (roles.Fact which) name = Operand (FactOf which)
word_start (roles.Call function) name = Calls function
word_start (roles.Text which) name = NoStart
word_start (roles.Reserved keyword) name = NoStart
word_start roles.OtherFunction name = NoStart

abbrev pub sign_start : Sign → Start
sign_start signs.OpenParen = Bracket
sign_start signs.Minus = Prefix one.Minus
sign_start signs.Tilde = Prefix one.Complement
sign_start signs.Bang = Prefix one.Not
sign_start other = NoStart

abbrev pub start_of : Shape → Start
start_of (shapes.Number number) = Operand (Constant (reduced (pos number)))
start_of (shapes.Literal bytes) = Operand (Constant (reduced (pos (bytes_number 0 bytes))))
start_of (shapes.Text bytes) = NoStart
start_of (shapes.Word word) = word_start (role_of word.bytes) word.bytes
start_of (shapes.Sign sign) = sign_start sign

-- What a token is after an operand.

pub data After : Type 0 where
  Operates : BinaryOp → After  -- an operator between operands
  Closes : After  -- `)`
  Separates : After  -- `,`
  Indexes : After  -- `[`
  EndsIndex : After  -- `]`
  NoAfter : After

abbrev pub sign_after : Sign → After
sign_after signs.CloseParen = Closes
sign_after signs.Comma = Separates
sign_after signs.OpenBracket = Indexes
sign_after signs.CloseBracket = EndsIndex
sign_after signs.Star = Operates two.Times
sign_after signs.Slash = Operates two.Divide
sign_after signs.Percent = Operates two.Remainder
sign_after signs.Plus = Operates two.Plus
sign_after signs.Minus = Operates two.Minus
sign_after signs.ShiftLeft = Operates two.ShiftLeft
sign_after signs.ShiftRight = Operates two.ShiftRight
sign_after signs.Greater = Operates two.Greater
sign_after signs.GreaterEqual = Operates two.GreaterEqual
sign_after signs.Less = Operates two.Less
sign_after signs.LessEqual = Operates two.LessEqual
sign_after signs.EqualEqual = Operates two.Equal
sign_after signs.NotEqual = Operates two.NotEqual
sign_after signs.And = Operates two.BitAnd
sign_after signs.Caret = Operates two.BitXor
sign_after signs.Or = Operates two.BitOr
sign_after signs.AndAnd = Operates two.And
sign_after signs.OrOr = Operates two.Or
sign_after other = NoAfter

abbrev pub after_of : Shape → After
after_of (shapes.Sign sign) = sign_after sign
after_of other = NoAfter

-- how loosely an operator binds
abbrev pub level_of : BinaryOp → ℕ
level_of two.Times = 1
level_of two.Divide = 1
level_of two.Remainder = 1
level_of two.Plus = 2
level_of two.Minus = 2
level_of two.ShiftLeft = 3
level_of two.ShiftRight = 3
level_of two.Greater = 4
level_of two.GreaterEqual = 4
level_of two.Less = 4
level_of two.LessEqual = 4
level_of two.Equal = 5
level_of two.NotEqual = 5
level_of two.BitAnd = 6
level_of two.BitXor = 7
level_of two.BitOr = 8
level_of two.And = 9
level_of two.Or = 10

abbrev pub loosest : ℕ
loosest = 10

-- The name of a function's brackets.

-- a function counts the rows of what any name may name, or tells which of them it stands in, and reads bits at a label
abbrev pub may_name : Function → Role → Bool
may_name CountOf role = is_name role
may_name ArrayIndex role = is_name role
may_name BitField role = is_label role
may_name (Data width) role = is_label role

abbrev pub closes : After → Bool
closes Closes = true
closes other = false

abbrev pub separates : After → Bool
separates Separates = true
separates other = false

-- after the name the brackets of a bit field go on, and all others end
abbrev pub ends_name : Function → After → Bool
ends_name CountOf after = closes after
ends_name ArrayIndex after = closes after
ends_name (Data width) after = closes after
ends_name BitField after = separates after

abbrev pub is_bracket : Start → Bool
is_bracket Bracket = true
is_bracket other = false

abbrev pub named_by : Function → Shape → Option Word
named_by function (shapes.Word word) = if may_name function (role_of word.bytes) then Some word else None
named_by function other = None

-- the name after a function's word: a bracket, the name, and what goes on or ends after it
abbrev pub argument : Function → List Token → Option Word
argument function [] = None
argument function (a ∷ []) = None
argument function (a ∷ b ∷ []) = None
argument function (a ∷ b ∷ c ∷ ts) =
    if is_bracket (start_of a.shape) && ends_name function (after_of c.shape) then named_by function b.shape else None

-- The tokens are an expression whose operators outside brackets have at most this level. An operator of a level has an
-- expression of that level on its left, and a tighter one on its right: all of one level go from left to right.
pub data Derives : ℕ → List Token → Term → Type 0 where
  operand : {t : Token} {e : Term} → start_of t.shape ≡ Operand e → Derives 0 (t ∷ []) e
  labelled : {t : Token} {name : List ℕ} → start_of t.shape ≡ Label name → Derives 0 (t ∷ []) (Named name)
  indexed : {t : Token} {name : List ℕ} {ts : List Token} {e : Term} (bracket close : Token) → start_of t.shape ≡ Label name → after_of bracket.shape ≡ Indexes
      → Derives loosest ts e → after_of close.shape ≡ EndsIndex → Derives 0 (t ∷ bracket ∷ (ts ++ close ∷ [])) (Indexed name e)
  prefixed : {t : Token} {ts : List Token} {op : UnaryOp} {e : Term} → start_of t.shape ≡ Prefix op → Derives 0 ts e → Derives 0 (t ∷ ts) (OfOne op e)
  grouped : {t : Token} {ts : List Token} {e : Term} (close : Token) → start_of t.shape ≡ Bracket → Derives loosest ts e → after_of close.shape ≡ Closes
      → Derives 0 (t ∷ (ts ++ close ∷ [])) e
  counted : {t a b c : Token} {word : Word} → start_of t.shape ≡ Calls CountOf → argument CountOf (a ∷ b ∷ c ∷ []) ≡ Some word
      → Derives 0 (t ∷ a ∷ b ∷ c ∷ []) (RowsOf word.bytes)
  numbered : {t a b c : Token} {word : Word} → start_of t.shape ≡ Calls ArrayIndex → argument ArrayIndex (a ∷ b ∷ c ∷ []) ≡ Some word
      → Derives 0 (t ∷ a ∷ b ∷ c ∷ []) (RowNumber word.bytes)
  data_at : {t a b c : Token} {word : Word} {width : ℕ} → start_of t.shape ≡ Calls (Data width) → argument (Data width) (a ∷ b ∷ c ∷ []) ≡ Some word
      → Derives 0 (t ∷ a ∷ b ∷ c ∷ []) (BitsAt word.bytes (Constant (pos 0)) (Constant (pos width)))
  bits_at : {t a b c : Token} {word : Word} {xs ys : List Token} {start width : Term} (comma close : Token)
      → start_of t.shape ≡ Calls BitField → argument BitField (a ∷ b ∷ c ∷ []) ≡ Some word
      → Derives loosest xs start → after_of comma.shape ≡ Separates → Derives loosest ys width → after_of close.shape ≡ Closes
      → Derives 0 (t ∷ a ∷ b ∷ c ∷ (xs ++ comma ∷ (ys ++ close ∷ []))) (BitsAt word.bytes start width)
  tighter : {level : ℕ} {ts : List Token} {e : Term} → Derives level ts e → Derives (suc level) ts e
  binary : {level : ℕ} {op : BinaryOp} {left right : Term} (xs ys : List Token) (t : Token) → after_of t.shape ≡ Operates op → level_of op ≡ suc level
      → Derives (suc level) xs left → Derives level ys right → Derives (suc level) (xs ++ t ∷ ys) (OfTwo op left right)

-- the tokens are this expression
abbrev pub IsExpression : List Token → Term → Type 0
IsExpression ts e = Derives loosest ts e

-- the tokens are a front that is this expression, and then the rest; no longer front is an expression
pub record LongestExpression (ts rest : List Token) (e : Term) : Type 0 where
  pub front : List Token
  pub whole : ts ≡ front ++ rest
  pub is : IsExpression front e
  pub longest : (more left : List Token) (other : Term) → rest ≡ more ++ left → more ≢ [] → IsExpression (front ++ more) other → ⊥

-- no front of the tokens is an expression
abbrev pub NoExpression : List Token → Type 0
NoExpression ts = (front left : List Token) (e : Term) → ts ≡ front ++ left → IsExpression front e → ⊥
