-- The head of a statement: an id, and then maybe a name and attributes. A head of a new resource has constants, the
-- moment and `$$Version` alone; one of a resource that is chosen may speak of that too. (MPW Rez.)
use Rattle.std.specs.Prelude.{◌≡◌, ℕ, Bool, true, false, if◌then◌else◌, List, [], ◌∷◌, map, Option, Some, None, option_map}
use Rattle.rz_words.specs.Attribute.{attribute_word}
use Rattle.rz_words.specs.declared.attribute.AttributeWord.{AttributeWord}
use Rattle.rz_expr.specs.Grammar.{IsExpression}
use Rattle.rz_expr.specs.Term.{term_of, Term}
use Rattle.rz_lex.specs.declared.token.Shape.{Shape}
use Rattle.rz_lex.specs.declared.token.Shape.TheVariants as shapes
use Rattle.rz_lex.specs.declared.token.Token.{Token}
use Rattle.rz_types_fields.specs.Place.{may_say}
use Rattle.rz_types_fields.specs.Text.{plain_parts, PlainPart}
use Rattle.rz_types_fields.specs.declared.place.TextPlace.{TextPlace}
use Rattle.rz_types_fields.specs.declared.place.TextPlace.TheVariants as places
use Rattle.rz_stmt_data.specs.Texts.{begins_text, IsText}
use Rattle.rz_stmt_data.specs.declared.head.AttrPart.{AttrPart}
use Rattle.rz_stmt_data.specs.declared.head.AttrPart.TheVariants as parts
use Rattle.rz_stmt_data.specs.declared.head.HeadExpr.{HeadExpr}
use Rattle.rz_stmt_data.specs.declared.head.Subject.{Subject}
use Rattle.rz_stmt_data.specs.declared.head.Subject.TheVariants.{Chosen, New}

-- a word that sets or clears a bit, or an expression whose value sets all eight
pub data Attribute : Type 0 where
  Set : (bit : ℕ) → Attribute
  Clear : (bit : ℕ) → Attribute
  Value : (term : Term) → Attribute

pub record Head : Type 0 where
  pub id : Term
  pub name : Option (List PlainPart)
  pub attributes : List Attribute

abbrev pub attribute_of : AttrPart → Attribute
attribute_of (parts.Set bit) = Set bit
attribute_of (parts.Clear bit) = Clear bit
attribute_of (parts.Value expr) = Value (term_of expr)

abbrev pub head_of : HeadExpr → Head
head_of head = record { id = term_of head.id; name = option_map plain_parts head.name; attributes = map attribute_of head.attributes }

-- what an attribute word says
abbrev pub said : AttributeWord → Attribute
said word = if word.sets then Set word.bit else Clear word.bit

-- the attribute that a piece is by one word
abbrev pub word_attribute : List Token → Option Attribute
word_attribute (token ∷ []) = by_word token.shape
  where
    by_word : Shape → Option Attribute
    by_word (shapes.Word word) = option_map said (attribute_word word.bytes)
    by_word shape = None
word_attribute tokens = None

-- where the expressions and the name of such a head stand
abbrev pub place_of : Subject → TextPlace
place_of New = places.New
place_of Chosen = places.Chosen

-- the tokens are this expression, and it may stand in a head of the subject
abbrev pub IsSaidFor : Subject → List Token → Term → Type 0
IsSaidFor subject tokens term = IsExpression tokens term × (may_say (place_of subject) term ≡ true)

-- a piece that is an attribute: such a word, or else an expression
abbrev pub IsAttributeBy : Subject → Option Attribute → List Token → Attribute → Type 0
IsAttributeBy subject (Some found) piece attribute = attribute ≡ found
IsAttributeBy subject None piece attribute = (term : Term) × IsSaidFor subject piece term × (attribute ≡ Value term)

abbrev pub IsAttributeFor : Subject → List Token → Attribute → Type 0
IsAttributeFor subject piece = IsAttributeBy subject (word_attribute piece) piece

abbrev pub AreAttributesFor : Subject → List (List Token) → List Attribute → Type 0
AreAttributesFor subject [] attributes = attributes ≡ []
AreAttributesFor subject (piece ∷ pieces) attributes =
    (first : Attribute) × (rest : List Attribute) × IsAttributeFor subject piece first × AreAttributesFor subject pieces rest × (attributes ≡ first ∷ rest)

-- what stands after the id: the name where a text begins there, and all other pieces are attributes
abbrev pub IsRestBy : Subject → Bool → List Token → List (List Token) → Option (List PlainPart) → List Attribute → Type 0
IsRestBy subject true piece pieces name attributes =
    (parts : List PlainPart) × IsText (place_of subject) piece parts × AreAttributesFor subject pieces attributes × (name ≡ Some parts)
IsRestBy subject false piece pieces name attributes = (name ≡ None) × AreAttributesFor subject (piece ∷ pieces) attributes

abbrev pub IsRestFor : Subject → List (List Token) → Option (List PlainPart) → List Attribute → Type 0
IsRestFor subject [] name attributes = (name ≡ None) × (attributes ≡ [])
IsRestFor subject (piece ∷ pieces) name attributes = IsRestBy subject (begins_text piece) piece pieces name attributes

abbrev pub IsRestOf : Subject → List (List Token) → Option (List PlainPart) × List Attribute → Type 0
IsRestOf subject pieces rest = IsRestFor subject pieces rest.0 rest.1

-- the pieces of a head of the subject: the id, and what stands after it
abbrev pub IsHeadFor : Subject → List (List Token) → Head → Type 0
IsHeadFor subject [] head = ⊥
IsHeadFor subject (first ∷ others) head = IsSaidFor subject first head.id × IsRestFor subject others head.name head.attributes

-- The head of a new resource.

abbrev pub IsAttribute : List Token → Attribute → Type 0
IsAttribute = IsAttributeFor New

abbrev pub AreAttributes : List (List Token) → List Attribute → Type 0
AreAttributes = AreAttributesFor New

abbrev pub IsRest : List (List Token) → Option (List PlainPart) → List Attribute → Type 0
IsRest = IsRestFor New

abbrev pub IsHead : List (List Token) → Head → Type 0
IsHead = IsHeadFor New
