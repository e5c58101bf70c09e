-- A `type` statement as it is written: `type`, a type, maybe ids in brackets, and fields in braces, or `as` and another
-- type. (MPW Rez.)
use Rattle.std.specs.Prelude.{◌≡◌, ℕ, true, false, List, [], ◌∷◌, Some, None}
use Rattle.rz_expr.specs.Term.{Term}
use Rattle.rz_words.specs.declared.keyword.Keyword.TheVariants as keywords
use Rattle.rz_lex.specs.declared.token.Token.{Token}
use Rattle.rz_stmt_brackets.specs.Bracket.{IsBracketed}
use Rattle.rz_stmt_brackets.specs.Pieces.{AreCut, Parted}
use Rattle.rz_stmt_brackets.specs.Statements.{is_empty}
use Rattle.rz_stmt_brackets.specs.declared.bracket.Bracket.TheVariants.{Curly, Round}
use Rattle.rz_stmt_brackets.specs.declared.pieces.Divider.TheVariants.{Colon}
use Rattle.rz_stmt_data.specs.Typed.{IsTyped}
use Rattle.rz_stmt_type.specs.Body.{IsBody}
use Rattle.rz_expr.specs.Constant.{IsConstant}
use Rattle.rz_stmt_fields.specs.Form.{Any, BodyForm, CopyOf, DeclareForm, Fields, MadeForm, One, ScopeForm, Two}

-- the ids: one, or the first and the last
abbrev pub AreIds : List (List Token) → ScopeForm → Type 0
AreIds (id ∷ []) scope = (term : Term) × IsConstant id term × (scope ≡ One term)
AreIds (first ∷ last ∷ []) scope = (from to : Term) × IsConstant first from × IsConstant last to × (scope ≡ Two from to)
AreIds pieces scope = ⊥

-- ids with `:` between them
abbrev pub IsScope : List Token → ScopeForm → Type 0
IsScope tokens scope = (pieces : List (List Token)) × AreCut Colon tokens pieces × AreIds pieces scope

-- what the type is, and the `;` that ends the statement
pub data IsMade (tokens : List Token) (made : MadeForm) : Type 0 where
  -- fields in braces
  in_braces : (parted : Parted) (body : BodyForm) → IsBracketed Curly tokens parted → is_empty parted.behind ≡ true → IsBody false parted.front body
      → made ≡ Fields body → IsMade tokens made
  -- `as` and another type
  copied : (behind : List Token) (code : ℕ) → IsTyped keywords.As tokens (record { kind = code; behind = behind }) → is_empty behind ≡ true
      → made ≡ CopyOf code None → IsMade tokens made
  -- `as`, another type, and one of its ids in brackets
  copied_of : (behind : List Token) (code : ℕ) (parted : Parted) (id : Term) → IsTyped keywords.As tokens (record { kind = code; behind = behind })
      → IsBracketed Round behind parted → is_empty parted.behind ≡ true → IsConstant parted.front id → made ≡ CopyOf code (Some id) → IsMade tokens made

-- for which ids, and what the type is
pub data IsScoped (tokens : List Token) (scope : ScopeForm) (made : MadeForm) : Type 0 where
  -- for any id
  for_any : scope ≡ Any → IsMade tokens made → IsScoped tokens scope made
  -- for the ids in brackets
  for_ids : (parted : Parted) → IsBracketed Round tokens parted → IsScope parted.front scope → IsMade parted.behind made → IsScoped tokens scope made

-- the tokens are this statement
pub record IsDeclare (tokens : List Token) (form : DeclareForm) : Type 0 where
  pub behind : List Token
  pub typed : IsTyped keywords.Kind tokens (record { kind = form.kind; behind = behind })
  pub scoped : IsScoped behind form.scope form.made
