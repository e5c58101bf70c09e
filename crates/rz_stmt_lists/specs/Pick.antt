-- Which resources of a type are meant. What may stand in a head of a new resource may stand here. (MPW Rez.)
use Rattle.std.specs.Prelude.{◌≡◌, Bool, true, false, List, [], ◌∷◌, Option, Some, None}
use Rattle.rz_expr.specs.Term.{term_of, Term}
use Rattle.rz_lex.specs.declared.token.Token.{Token}
use Rattle.rz_stmt_brackets.specs.Pieces.{AreCut}
use Rattle.rz_stmt_brackets.specs.declared.pieces.Divider.TheVariants.{Colon}
use Rattle.rz_stmt_data.specs.Head.{IsSaidFor}
use Rattle.rz_stmt_data.specs.Texts.{begins_text, IsText}
use Rattle.rz_stmt_data.specs.declared.head.Subject.TheVariants.{New}
use Rattle.rz_types_fields.specs.Text.{plain_parts, PlainPart}
use Rattle.rz_types_fields.specs.declared.place.TextPlace.TheVariants as places
use Rattle.rz_stmt_lists.specs.declared.pick.PickExpr.{PickExpr}
use Rattle.rz_stmt_lists.specs.declared.pick.PickExpr.TheVariants as picks

-- all, the one with an id, those from one id to another, or the one with a name
pub data Pick : Type 0 where
  All : Pick
  Id : (id : Term) → Pick
  Range : (first last : Term) → Pick
  Name : (parts : List PlainPart) → Pick

abbrev pub pick_of : PickExpr → Pick
pick_of picks.All = All
pick_of (picks.Id id) = Id (term_of id)
pick_of (picks.Range first last) = Range (term_of first) (term_of last)
pick_of (picks.Name texts) = Name (plain_parts texts)

-- one resource at most is meant
abbrev pub picks_one : Pick → Bool
picks_one All = false
picks_one (Id id) = true
picks_one (Range first last) = false
picks_one (Name parts) = true

-- the ids: one, or the first and the last
abbrev pub AreIds : List (List Token) → Pick → Type 0
AreIds (id ∷ []) pick = (term : Term) × IsSaidFor New id term × (pick ≡ Id term)
AreIds (first ∷ last ∷ []) pick = (from to : Term) × IsSaidFor New first from × IsSaidFor New last to × (pick ≡ Range from to)
AreIds pieces pick = ⊥

-- ids with `:` between them
abbrev pub IsIds : List Token → Pick → Type 0
IsIds tokens pick = (pieces : List (List Token)) × AreCut Colon tokens pieces × AreIds pieces pick

abbrev pub IsNamePick : List Token → Pick → Type 0
IsNamePick tokens pick = (parts : List PlainPart) × IsText places.New tokens parts × (pick ≡ Name parts)

-- a name where a text begins there, or else ids
abbrev pub IsPickBy : Bool → List Token → Pick → Type 0
IsPickBy true tokens pick = IsNamePick tokens pick
IsPickBy false tokens pick = IsIds tokens pick

abbrev pub IsPick : List Token → Pick → Type 0
IsPick tokens pick = IsPickBy (begins_text tokens) tokens pick

-- what stands in brackets; without them all are meant
abbrev pub IsPicked : Option (List Token) → Pick → Type 0
IsPicked None pick = pick ≡ All
IsPicked (Some tokens) pick = IsPick tokens pick
