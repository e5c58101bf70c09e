-- What the parts of the readers look for. The other definitions say the same in the words of the language.
use Rattle.std.specs.Prelude.{◌≡◌, ℕ, Bool, true, false, List, ◌∷◌, Option, Some, option_map}
use Rattle.rz_stmt_data.specs.Head.{IsSaidFor}
use Rattle.rz_stmt_data.specs.declared.head.Subject.TheVariants.{New}
use Rattle.rz_expr.specs.Term.{Term}
use Rattle.rz_words.specs.declared.keyword.Keyword.TheVariants as keywords
use Rattle.rz_lex.specs.declared.token.Token.{Token}
use Rattle.rz_stmt_brackets.specs.Kind.{kind_in}
use Rattle.rz_stmt_brackets.specs.Statements.{is_empty}
use Rattle.rz_stmt_lists.specs.Brackets.{IsMaybe}
use Rattle.rz_stmt_lists.specs.Include.{Chosen, Not, Part, Renamed}
use Rattle.rz_stmt_lists.specs.Pick.{Id, IsPicked, Pick, Range}
use Rattle.rz_stmt_lists.specs.Renaming.{IsRenaming, Renaming}
use Rattle.rz_stmt_lists.specs.declared.brackets.Maybe as code

-- Brackets that may be left out.

abbrev pub held_maybe : code.Maybe → Option (List Token) × List Token
held_maybe maybe = (option_map (λ inside. inside.now) maybe.inside, maybe.behind.now)

abbrev pub IsMaybePair : List Token → Option (List Token) × List Token → Type 0
IsMaybePair tokens pair = IsMaybe tokens pair.0 pair.1

-- One id, and two.

abbrev pub IsOneId : List Token → Pick → Type 0
IsOneId id pick = (term : Term) × IsSaidFor New id term × (pick ≡ Id term)

abbrev pub AreTwoIds : List Token → List Token → Pick → Type 0
AreTwoIds first last pick = (from to : Term) × IsSaidFor New first from × IsSaidFor New last to × (pick ≡ Range from to)

-- What stands after `not`, and after a type.

abbrev pub IsOthers : List Token → Part → Type 0
IsOthers tokens part = (kind : Token) × (behind : List Token) × (code : ℕ) × (tokens ≡ kind ∷ behind) × (kind_in kind.shape ≡ Some code) × (is_empty behind ≡ true) × (part ≡ Not code)

-- after a pick the statement ends, or goes on with what is picked
abbrev pub IsGoneOn : Bool → ℕ → Pick → List Token → Part → Type 0
IsGoneOn true kind pick rest part = part ≡ Chosen kind pick
IsGoneOn false kind pick rest part = (renaming : Renaming) × IsRenaming keywords.As pick rest renaming × (part ≡ Renamed kind pick renaming.kind renaming.head)

abbrev pub IsOfType : ℕ → List Token → Part → Type 0
IsOfType kind tokens part =
    (inside : Option (List Token)) × (rest : List Token) × (pick : Pick) × IsMaybe tokens inside rest × IsPicked inside pick × IsGoneOn (is_empty rest) kind pick rest part
