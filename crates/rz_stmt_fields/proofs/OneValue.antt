-- Values of fields are one at most.
use Rattle.std.proofs.Common.{◌≡◌, ℕ, List, Option, Some, None, sym, ◌∙◌}
use Rattle.rz_expr.proofs.OneTerm.{OneExpression}
use Rattle.rz_expr.specs.Term.{Term}
use Rattle.rz_lex.specs.declared.token.Token.{Token}
use Rattle.rz_expr.specs.Constant.{IsConstant}
use Rattle.rz_stmt_fields.specs.FieldValue.{one_byte, IsFixedExpression, IsFixedValue, IsSizeExpression, IsSymbolValue, IsValueBy}
use Rattle.rz_types_fields.specs.declared.field.NumForm.{NumForm}

module _ (one : OneExpression) where
  pub one_constant : (tokens : List Token) (a b : Term) → IsConstant tokens a → IsConstant tokens b → a ≡ b
  one_constant tokens a b is also = one tokens a b is.0 also.0

  pub one_size_expression : (tokens : List Token) (a b : Term) → IsSizeExpression tokens a → IsSizeExpression tokens b → a ≡ b
  one_size_expression tokens a b is also = one tokens a b is.0 also.0

  pub one_fixed_expression : (tokens : List Token) (a b : Term) → IsFixedExpression tokens a → IsFixedExpression tokens b → a ≡ b
  one_fixed_expression tokens a b is also = one tokens a b is.0 also.0

  value_by : (Is : List Token → Term → Type 0) → ((tokens : List Token) (a b : Term) → Is tokens a → Is tokens b → a ≡ b) → (found : Option ℕ) (tokens : List Token) (a b : Term)
      → IsValueBy Is found tokens a → IsValueBy Is found tokens b → a ≡ b
  value_by Is one_is (Some byte) tokens a b is also = is ∙ sym also
  value_by Is one_is None tokens a b is also = one_is tokens a b is also

  pub one_fixed_value : (form : NumForm) (tokens : List Token) (a b : Term) → IsFixedValue form tokens a → IsFixedValue form tokens b → a ≡ b
  one_fixed_value form tokens a b is also = value_by IsFixedExpression one_fixed_expression (one_byte form tokens) tokens a b is also

  pub one_symbol_value : (form : NumForm) (tokens : List Token) (a b : Term) → IsSymbolValue form tokens a → IsSymbolValue form tokens b → a ≡ b
  one_symbol_value form tokens a b is also = value_by IsConstant one_constant (one_byte form tokens) tokens a b is also
