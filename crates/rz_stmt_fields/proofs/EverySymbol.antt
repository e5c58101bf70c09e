-- Of all tokens it is decided which symbol they are.
use Rattle.std.proofs.Common.{◌≡◌, true, List, [], ◌∷◌, Option, Some, None, refl}
use Rattle.std.proofs.Math.Decide.{map_dec}
use Rattle.rz_core.proofs.EveryCut.{both, is_true, some_of}
use Rattle.rz_core.specs.declared.resource.Word.{Word}
use Rattle.rz_expr.proofs.OneTerm.{OneExpression}
use Rattle.rz_expr.specs.Term.{Term}
use Rattle.rz_lex.specs.declared.token.Token.{Token}
use Rattle.rz_stmt_fields.specs.FieldValue.{is_equals, IsSymbolValue}
use Rattle.rz_stmt_fields.specs.Form.{NamedTerm}
use Rattle.rz_stmt_fields.specs.Symbols.{name_in, IsGiven, IsSymbol}
use Rattle.rz_stmt_fields.proofs.EveryTerm.{EveryExpression}
use Rattle.rz_stmt_fields.proofs.EveryValue.{has_symbol_value, HasTerm}
use Rattle.rz_types_fields.specs.declared.field.NumForm.{NumForm}

module _ (one : OneExpression) (expression : EveryExpression) (form : NumForm) where
  abbrev HasGiven : List Token → Type 0
  HasGiven tokens = (value : Option Term) × IsGiven form tokens value

  abbrev HasSymbol : List Token → Type 0
  HasSymbol tokens = (symbol : NamedTerm) × IsSymbol form tokens symbol

  has_given : (tokens : List Token) → Dec (HasGiven tokens)
  has_given [] = yes (None, refl)
  has_given (token ∷ tokens) = map_dec to from (both (is_true (is_equals token.shape)) (has_symbol_value one expression form tokens))
    where
      to : (is_equals token.shape ≡ true) × HasTerm (IsSymbolValue form) tokens → HasGiven (token ∷ tokens)
      to (equals, value) = (Some value.0, (equals, value.0, value.1, refl))

      from : HasGiven (token ∷ tokens) → (is_equals token.shape ≡ true) × HasTerm (IsSymbolValue form) tokens
      from h = (h.1.0, (h.1.1, h.1.2))

  pub has_symbol : (tokens : List Token) → Dec (HasSymbol tokens)
  has_symbol [] = no (λ h. h.1)
  has_symbol (token ∷ tokens) = map_dec to from (both (some_of (name_in token.shape)) (has_given tokens))
    where
      to : ((name : Word) × (name_in token.shape ≡ Some name)) × HasGiven tokens → HasSymbol (token ∷ tokens)
      to (name, given) = (record { name = name.0; value = given.0 }, (name.1, given.1))

      from : HasSymbol (token ∷ tokens) → ((name : Word) × (name_in token.shape ≡ Some name)) × HasGiven tokens
      from h = ((h.0.name, h.1.0), (h.0.value, h.1.1))
