-- What the code asks of a `type` statement, part by part. `Declare` says the same in the words of the language.
use Rattle.std.specs.Prelude.{◌≡◌, ℕ, Bool, true, false, List, Option, Some, None}
use Rattle.rz_expr.specs.Term.{Term}
use Rattle.rz_words.specs.declared.keyword.Keyword.TheVariants as keywords
use Rattle.rz_lex.specs.declared.token.Token.{Token}
use Rattle.rz_stmt_brackets.specs.Bracket.{IsBracketed}
use Rattle.rz_stmt_brackets.specs.Pieces.{Parted}
use Rattle.rz_stmt_brackets.specs.Statements.{is_empty}
use Rattle.rz_stmt_brackets.specs.declared.bracket.Bracket.TheVariants.{Curly, Round}
use Rattle.rz_stmt_data.specs.Typed.{IsTyped}
use Rattle.rz_stmt_type.specs.Body.{IsBody}
use Rattle.rz_stmt_type.specs.Declare.{IsMade, IsScope, IsScoped}
use Rattle.rz_expr.specs.Constant.{IsConstant}
use Rattle.rz_stmt_fields.specs.Form.{made_form, scope_form, Any, BodyForm, CopyOf, Fields, MadeForm, One, ScopeForm, Two}
use Rattle.rz_stmt_type.specs.declared.declare.Scoped.{Scoped}

abbrev pub IsOneId : List Token → ScopeForm → Type 0
IsOneId id scope = (term : Term) × IsConstant id term × (scope ≡ One term)

abbrev pub AreTwoIds : List Token → List Token → ScopeForm → Type 0
AreTwoIds first last scope = (from to : Term) × IsConstant first from × IsConstant last to × (scope ≡ Two from to)

abbrev pub AreFieldsMade : List Token → MadeForm → Type 0
AreFieldsMade tokens made =
    (parted : Parted) × (body : BodyForm) × IsBracketed Curly tokens parted × (is_empty parted.behind ≡ true) × IsBody false parted.front body × (made ≡ Fields body)

abbrev pub IsGivenId : List Token → Option Term → Type 0
IsGivenId tokens id = (parted : Parted) × (term : Term) × IsBracketed Round tokens parted × (is_empty parted.behind ≡ true) × IsConstant parted.front term × (id ≡ Some term)

abbrev pub IsCopyIdBy : Bool → List Token → Option Term → Type 0
IsCopyIdBy true tokens id = id ≡ None
IsCopyIdBy false tokens id = IsGivenId tokens id

abbrev pub IsCopyId : List Token → Option Term → Type 0
IsCopyId tokens id = IsCopyIdBy (is_empty tokens) tokens id

pub record IsCopy (tokens : List Token) (made : MadeForm) : Type 0 where
  pub behind : List Token
  pub code : ℕ
  pub id : Option Term
  pub typed : IsTyped keywords.As tokens (record { kind = code; behind = behind })
  pub has_id : IsCopyId behind id
  pub made_so : made ≡ CopyOf code id

-- The ids and what the type is, together.

abbrev pub scoped_form : Scoped → ScopeForm × MadeForm
scoped_form parts = (scope_form parts.scope, made_form parts.made)

abbrev pub AreScoped : List Token → ScopeForm × MadeForm → Type 0
AreScoped tokens parts = IsScoped tokens parts.0 parts.1

abbrev pub AreForAny : List Token → ScopeForm × MadeForm → Type 0
AreForAny tokens parts = (made : MadeForm) × IsMade tokens made × (parts ≡ (Any, made))

abbrev pub AreForIds : List Token → ScopeForm × MadeForm → Type 0
AreForIds tokens parts =
    (parted : Parted) × (scope : ScopeForm) × (made : MadeForm) × IsBracketed Round tokens parted × IsScope parted.front scope × IsMade parted.behind made × (parts ≡ (scope, made))
