-- Arrays and cases up to their fields. (MPW Rez.)
use Rattle.std.specs.Prelude.{◌≡◌, Bool, true, false, if◌then◌else◌, List, [], ◌∷◌, Option, Some, None, option_map}
use Rattle.rz_core.specs.declared.resource.Word.{Word}
use Rattle.rz_expr.specs.Constant.{IsConstant}
use Rattle.rz_expr.specs.Term.{Term}
use Rattle.rz_lex.specs.declared.sign.Sign.TheVariants as signs
use Rattle.rz_lex.specs.declared.token.Shape.{Shape}
use Rattle.rz_lex.specs.declared.token.Shape.TheVariants as shapes
use Rattle.rz_lex.specs.declared.token.Token.{Token}
use Rattle.rz_stmt_brackets.specs.Bracket.{IsBracketed}
use Rattle.rz_stmt_brackets.specs.Pieces.{Parted}
use Rattle.rz_stmt_brackets.specs.declared.bracket.Bracket.TheVariants.{Curly, Square}
use Rattle.rz_stmt_fields.specs.Symbols.{name_in}

-- the tokens are braces, in which this stands, and nothing after them
abbrev pub IsBraced : List Token → List Token → Type 0
IsBraced tokens inside = (parted : Parted) × IsBracketed Curly tokens parted × (parted.behind ≡ []) × (inside ≡ parted.front)

-- Arrays.

-- the name of an array or the count of its rows, and what stands in its braces
pub record ArrayFront : Type 0 where
  pub name : Option Word
  pub count : Option Term
  pub row : List Token

-- neither
abbrev pub IsBare : List Token → ArrayFront → Type 0
IsBare tokens front = (row : List Token) × IsBraced tokens row × (front ≡ record { name = None; count = None; row = row })

-- a name
abbrev pub IsNamed : List Token → ArrayFront → Type 0
IsNamed [] front = ⊥
IsNamed (token ∷ tokens) front =
    (name : Word) × (row : List Token) × (name_in token.shape ≡ Some name) × IsBraced tokens row × (front ≡ record { name = Some name; count = None; row = row })

-- the count of its rows, a constant in square brackets
abbrev pub IsCounted : List Token → ArrayFront → Type 0
IsCounted tokens front =
    (parted : Parted) × (count : Term) × (row : List Token) × IsBracketed Square tokens parted × IsConstant parted.front count × IsBraced parted.behind row
    × (front ≡ record { name = None; count = Some count; row = row })

-- what stands after `array`
pub data IsArrayFront (tokens : List Token) (front : ArrayFront) : Type 0 where
  bare : IsBare tokens front → IsArrayFront tokens front
  named : IsNamed tokens front → IsArrayFront tokens front
  counted : IsCounted tokens front → IsArrayFront tokens front

-- Cases.

abbrev pub is_colon : Shape → Bool
is_colon (shapes.Sign signs.Colon) = true
is_colon shape = false

-- the name of a case, and what stands after its `:`
pub record CaseFront : Type 0 where
  pub name : Word
  pub row : List Token

abbrev pub case_front : List Token → Option CaseFront
case_front [] = None
case_front (first ∷ []) = None
case_front (first ∷ second ∷ row) = if is_colon second.shape then option_map (λ name. record { name = name; row = row }) (name_in first.shape) else None

-- the pieces after a first one that is empty
abbrev pub behind_empty : List (List Token) → Option (List (List Token))
behind_empty [] = None
behind_empty ([] ∷ pieces) = Some pieces
behind_empty ((token ∷ tokens) ∷ pieces) = None
