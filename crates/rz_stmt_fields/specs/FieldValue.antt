-- Values in type declarations. (MPW Rez.)
use Rattle.std.specs.Prelude.{◌≡◌, ℕ, pos, Bool, true, false, List, [], ◌∷◌, Option, Some, None}
use Rattle.rz_expr.specs.Constant.{IsConstant}
use Rattle.rz_expr.specs.Grammar.{IsExpression}
use Rattle.rz_expr.specs.Term.{Constant, Term}
use Rattle.rz_lex.specs.declared.sign.Sign.TheVariants as signs
use Rattle.rz_lex.specs.declared.token.Shape.{Shape}
use Rattle.rz_lex.specs.declared.token.Shape.TheVariants as shapes
use Rattle.rz_lex.specs.declared.token.Token.{Token}
use Rattle.rz_types_fields.specs.Value.{is_fixed_expression, is_size_expression}
use Rattle.rz_types_fields.specs.declared.field.NumForm.{NumForm}
use Rattle.rz_types_fields.specs.declared.field.NumForm.TheVariants.{Char}

-- an expression that may stand for a size: it may name labels, by themselves, in a row and with the bits after them,
-- and arrays by the row around, but not by the number of their rows
abbrev pub IsSizeExpression : List Token → Term → Type 0
IsSizeExpression tokens term = IsExpression tokens term × (is_size_expression term ≡ true)

-- one that may stand for a fixed value: it may name arrays by the number of their rows too
abbrev pub IsFixedExpression : List Token → Term → Type 0
IsFixedExpression tokens term = IsExpression tokens term × (is_fixed_expression term ≡ true)

abbrev pub byte_in : Shape → Option ℕ
byte_in (shapes.Text (byte ∷ [])) = Some byte
byte_in shape = None

-- after `char` a text alone may be a byte
abbrev pub one_byte : NumForm → List Token → Option ℕ
one_byte Char (token ∷ []) = byte_in token.shape
one_byte form tokens = None

abbrev pub IsValueBy : (List Token → Term → Type 0) → Option ℕ → List Token → Term → Type 0
IsValueBy Is (Some byte) tokens term = term ≡ Constant (pos byte)
IsValueBy Is None tokens term = Is tokens term

-- the fixed value of a number field: the number of such a byte, or an expression
abbrev pub IsFixedValue : NumForm → List Token → Term → Type 0
IsFixedValue form tokens = IsValueBy IsFixedExpression (one_byte form tokens) tokens

-- the value of a symbol: the number of such a byte, or a constant
abbrev pub IsSymbolValue : NumForm → List Token → Term → Type 0
IsSymbolValue form tokens = IsValueBy IsConstant (one_byte form tokens) tokens

abbrev pub is_equals : Shape → Bool
is_equals (shapes.Sign signs.Equals) = true
is_equals shape = false
