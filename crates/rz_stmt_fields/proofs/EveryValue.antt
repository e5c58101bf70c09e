-- Of all tokens it is decided which value of a field they are.
use Rattle.std.proofs.Common.{◌≡◌, ℕ, pos, Bool, true, List, Option, Some, None, refl}
use Rattle.std.proofs.Math.Decide.{map_dec}
use Rattle.rz_core.proofs.EveryCut.{answer_of, is_true, known_of, known_with}
use Rattle.rz_core.specs.Decided.{Decided}
use Rattle.rz_expr.proofs.OneTerm.{OneExpression}
use Rattle.rz_expr.specs.Constant.{is_constant, IsConstant}
use Rattle.rz_expr.specs.Grammar.{IsExpression}
use Rattle.rz_expr.specs.Term.{Constant, Term}
use Rattle.rz_lex.specs.declared.token.Token.{Token}
use Rattle.rz_stmt_fields.specs.FieldValue.{one_byte, IsFixedExpression, IsFixedValue, IsSizeExpression, IsSymbolValue, IsValueBy}
use Rattle.rz_stmt_fields.proofs.EveryTerm.{EveryExpression}
use Rattle.rz_types_fields.specs.Value.{is_fixed_expression, is_size_expression}
use Rattle.rz_types_fields.specs.declared.field.NumForm.{NumForm}

-- there is a term that they are
abbrev pub HasTerm : (List Token → Term → Type 0) → List Token → Type 0
HasTerm Is tokens = (term : Term) × Is tokens term

value_by : (Is : List Token → Term → Type 0) → ((tokens : List Token) → Dec (HasTerm Is tokens)) → (found : Option ℕ) (tokens : List Token)
    → Dec (HasTerm (IsValueBy Is found) tokens)
value_by Is each (Some byte) tokens = yes (Constant (pos byte), refl)
value_by Is each None tokens = each tokens

-- an expression of which a test is true
abbrev IsTested : (Term → Bool) → List Token → Term → Type 0
IsTested test tokens term = IsExpression tokens term × (test term ≡ true)

module _ (one : OneExpression) (expression : EveryExpression) where
  tested : (test : Term → Bool) (tokens : List Token) → Dec (HasTerm (IsTested test) tokens)
  tested test tokens =
      map_dec to from (known_with (IsExpression tokens) (λ term. test term ≡ true) (one tokens) (known_of (IsExpression tokens) (expression tokens))
      (λ term is. is_true (test term)))
    where
      to : (term : Term) × IsExpression tokens term × (test term ≡ true) → HasTerm (IsTested test) tokens
      to (term, is, holds) = (term, (is, holds))

      from : HasTerm (IsTested test) tokens → (term : Term) × IsExpression tokens term × (test term ≡ true)
      from (term, (is, holds)) = (term, is, holds)

  pub has_constant : (tokens : List Token) → Dec (HasTerm IsConstant tokens)
  has_constant = tested is_constant

  pub has_fixed_expression : (tokens : List Token) → Dec (HasTerm IsFixedExpression tokens)
  has_fixed_expression = tested is_fixed_expression

  pub has_fixed_value : (form : NumForm) (tokens : List Token) → Dec (HasTerm (IsFixedValue form) tokens)
  has_fixed_value form tokens = value_by IsFixedExpression has_fixed_expression (one_byte form tokens) tokens

  pub has_symbol_value : (form : NumForm) (tokens : List Token) → Dec (HasTerm (IsSymbolValue form) tokens)
  has_symbol_value form tokens = value_by IsConstant has_constant (one_byte form tokens) tokens

  pub every_size_expression : (tokens : List Token) → (answer : Option Term) × Decided (IsSizeExpression tokens) answer
  every_size_expression tokens = answer_of (IsSizeExpression tokens) (tested is_size_expression tokens)
