-- The symbols of a number as they are written. (MPW Rez.)
use Rattle.std.specs.Prelude.{◌≡◌, true, if◌then◌else◌, List, [], ◌∷◌, Option, Some, None}
use Rattle.rz_core.specs.declared.resource.Word.{Word}
use Rattle.rz_expr.specs.Term.{Term}
use Rattle.rz_words.specs.Words.{is_name, role_of}
use Rattle.rz_lex.specs.declared.token.Shape.{Shape}
use Rattle.rz_lex.specs.declared.token.Shape.TheVariants as shapes
use Rattle.rz_lex.specs.declared.token.Token.{Token}
use Rattle.rz_stmt_fields.specs.FieldValue.{is_equals, IsSymbolValue}
use Rattle.rz_stmt_fields.specs.Form.{NamedTerm}
use Rattle.rz_types_fields.specs.declared.field.NumForm.{NumForm}

-- the name that a token is
abbrev pub name_in : Shape → Option Word
name_in (shapes.Word word) = if is_name (role_of word.bytes) then Some word else None
name_in shape = None

-- after the name stands nothing, or `=` and a value
abbrev pub IsGiven : NumForm → List Token → Option Term → Type 0
IsGiven form [] value = value ≡ None
IsGiven form (token ∷ tokens) value = (is_equals token.shape ≡ true) × (term : Term) × IsSymbolValue form tokens term × (value ≡ Some term)

-- a symbol: its name, and maybe a value
abbrev pub IsSymbol : NumForm → List Token → NamedTerm → Type 0
IsSymbol form [] symbol = ⊥
IsSymbol form (token ∷ tokens) symbol = (name_in token.shape ≡ Some symbol.name) × IsGiven form tokens symbol.value
