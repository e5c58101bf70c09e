-- Labels in front of fields. (MPW Rez.)
use Rattle.std.specs.Prelude.{◌≡◌, if◌then◌else◌, List, [], ◌∷◌, Option, Some, None, option_map}
use Rattle.rz_core.specs.declared.resource.Word.{Word}
use Rattle.rz_words.specs.Words.{is_label, role_of}
use Rattle.rz_lex.specs.declared.token.Shape.{Shape}
use Rattle.rz_lex.specs.declared.token.Shape.TheVariants as shapes
use Rattle.rz_lex.specs.declared.token.Token.{Token}
use Rattle.rz_stmt_type.specs.Head.{is_colon}

-- the name of a label that a token is
abbrev pub label_in : Shape → Option Word
label_in (shapes.Word word) = if is_label (role_of word.bytes) then Some word else None
label_in shape = None

-- the name of a label, and what stands after its `:`
pub record LabelFront : Type 0 where
  pub name : Word
  pub behind : List Token

-- the label that stands at the front
abbrev pub label_front : List Token → Option LabelFront
label_front [] = None
label_front (first ∷ []) = None
label_front (first ∷ second ∷ behind) =
    if is_colon second.shape then option_map (λ name. record { name = name; behind = behind }) (label_in first.shape) else None

-- the labels at the front, and what stands after them all
pub data AreLabels : List Token → List Word → List Token → Type 0 where
  no_label : (tokens : List Token) → label_front tokens ≡ None → AreLabels tokens [] tokens
  label_more : (tokens : List Token) (front : LabelFront) (names : List Word) (behind : List Token)
      → label_front tokens ≡ Some front → AreLabels front.behind names behind → AreLabels tokens (front.name ∷ names) behind
