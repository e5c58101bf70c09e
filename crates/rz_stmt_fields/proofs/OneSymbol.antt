-- Symbols are one at most.
use Rattle.std.proofs.Common.{◌≡◌, List, [], ◌∷◌, Option, Some, sym, ap, ◌∙◌}
use Rattle.rz_expr.proofs.OneTerm.{OneExpression}
use Rattle.rz_core.proofs.Tests.{same_some}
use Rattle.rz_expr.specs.Term.{Term}
use Rattle.rz_lex.specs.declared.token.Token.{Token}
use Rattle.rz_stmt_fields.specs.Form.{NamedTerm}
use Rattle.rz_stmt_fields.specs.Symbols.{name_in, IsGiven, IsSymbol}
use Rattle.rz_stmt_fields.proofs.OneValue.{one_symbol_value}
use Rattle.rz_types_fields.specs.declared.field.NumForm.{NumForm}

module _ (one : OneExpression) (form : NumForm) where
  one_given : (tokens : List Token) (a b : Option Term) → IsGiven form tokens a → IsGiven form tokens b → a ≡ b
  one_given [] a b is also = is ∙ sym also
  one_given (token ∷ tokens) a b is also = is.3 ∙ ap (λ (t : Term). Some t) (one_symbol_value one form tokens is.1 also.1 is.2 also.2) ∙ sym also.3

  pub one_symbol : (tokens : List Token) (a b : NamedTerm) → IsSymbol form tokens a → IsSymbol form tokens b → a ≡ b
  one_symbol [] a b is also = absurd is
  one_symbol (token ∷ tokens) a b is also =
      let name : a.name ≡ b.name = same_some (name_in token.shape) a.name b.name is.0 also.0 in
      let value : a.value ≡ b.value = one_given tokens a.value b.value is.1 also.1 in
      λ i. record { name = name i; value = value i }
