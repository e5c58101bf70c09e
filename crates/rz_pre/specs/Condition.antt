-- The condition of an `#if` or `#elif`: what it asks, and its value. (MPW Rez.)
use Rattle.std.specs.Prelude.{◌≡◌, ℕ, ℤ, pos, ◌≤◌, ◌⊎◌, Bool, true, false, not, ◌||◌, if◌then◌else◌, List, [], ◌∷◌, length, Option, Some, None, Ok, option_map}
use Rattle.std.specs.Option.{is_some}
use Rattle.std.specs.Str.{str_eq_ignore_ascii_case, str_to_ascii_lowercase}
use Rattle.rz_core.specs.declared.fault.Fault.{Fault}
use Rattle.rz_core.specs.declared.fault.Kept.TheVariants.{Nothing}
use Rattle.rz_core.specs.declared.fault.Mark.{Mark}
use Rattle.rz_lex.specs.Printed.{token_of}
use Rattle.rz_lex.specs.declared.sign.Sign.TheVariants.{CloseParen, OpenParen}
use Rattle.rz_lex.specs.declared.token.Shape.{Shape}
use Rattle.rz_lex.specs.declared.token.Shape.TheVariants as shapes
use Rattle.rz_lex.specs.declared.token.Token.{Token}
use Rattle.rz_expr.specs.Environment.{predefined, Sight}
use Rattle.rz_expr.specs.Grammar.{IsExpression}
use Rattle.rz_words.specs.Keyword.{spelling}
use Rattle.rz_expr.specs.Keyword.{is_keyword}
use Rattle.rz_expr.specs.Term.{Term}
use Rattle.rz_expr.specs.Value.{is_zero, value_of}
use Rattle.rz_words.specs.Words.{role_of}
use Rattle.rz_words.specs.declared.keyword.Keyword.{Keyword}
use Rattle.rz_words.specs.declared.keyword.Keyword.TheVariants as keywords
use Rattle.rz_words.specs.declared.words.Role.{Role}
use Rattle.rz_words.specs.declared.words.Role.TheVariants.{Call, Fact, Text}
use Rattle.rz_pre.specs.Expanded.{ExpandInto, FirstTooLong}
use Rattle.rz_pre.specs.Live.{Live}
use Rattle.rz_pre.specs.declared.condition.Tool.{Tool}
use Rattle.rz_pre.specs.declared.condition.Tool.TheVariants.{DeRez, Rez}

-- what is asked: the name after `defined`, alone or in brackets, and what stands after it

abbrev pub word_name : Shape → Option (List ℕ)
word_name (shapes.Word word) = Some word.bytes
word_name other = None

abbrev pub is_defined : Shape → Bool
is_defined shape = is_keyword keywords.Defined shape

abbrev pub opens : Shape → Bool
opens (shapes.Sign OpenParen) = true
opens other = false

abbrev pub closes : Shape → Bool
closes (shapes.Sign CloseParen) = true
closes other = false

abbrev pub Asked : Type 0
Asked = Option (List ℕ × List Token)

abbrev pub in_brackets : List Token → Asked
in_brackets (name ∷ close ∷ rest) = if closes close.shape then option_map (λ word. (word, rest)) (word_name name.shape) else None
in_brackets other = None

abbrev pub asked_name : Option (List ℕ) → Bool → List Token → Asked
asked_name (Some word) bracket rest = Some (word, rest)
asked_name None true rest = in_brackets rest
asked_name None false rest = None

abbrev pub behind_defined : List Token → Asked
behind_defined [] = None
behind_defined (next ∷ rest) = asked_name (word_name next.shape) (opens next.shape) rest

abbrev pub asked : List Token → Asked
asked [] = None
asked (first ∷ rest) = if is_defined first.shape then behind_defined rest else None

-- the name is this keyword, in whatever case
abbrev pub is_named : Keyword → List ℕ → Bool
is_named keyword name = str_eq_ignore_ascii_case name (spelling keyword)

-- a word that always has a value: `true`, `false` and the names of the tools
abbrev pub has_value : List ℕ → Bool
has_value name = is_some (predefined name) || is_named keywords.Rez name || is_named keywords.DeRez name

-- the name is a live macro's, or always has a value
abbrev pub is_known : Live → List ℕ → Bool
is_known live name = has_value name || is_some (live (str_to_ascii_lowercase name))

abbrev pub answer : Live → List ℕ → ℕ
answer live name = if is_known live name then 1 else 0

-- from left to right, each question is one number, and each other token stays
pub data Tells : Live → List Token → List Token → Type 0 where
  nothing : {live : Live} {told : List Token} → told ≡ [] → Tells live [] told
  question : {live : Live} {first : Token} {rest told : List Token} (name : List ℕ) (behind back : List Token)
      → asked (first ∷ rest) ≡ Some (name, behind) → Tells live behind back
      → told ≡ token_of first.mark (shapes.Number (answer live name)) ∷ back → Tells live (first ∷ rest) told
  stays : {live : Live} {first : Token} {rest told : List Token} (back : List Token)
      → asked (first ∷ rest) ≡ None → Tells live rest back → told ≡ first ∷ back → Tells live (first ∷ rest) told

-- the value of a word that is left: 1 of the tool's name and of `true`, else 0
abbrev pub own_keyword : Tool → Keyword
own_keyword Rez = keywords.Rez
own_keyword DeRez = keywords.DeRez

abbrev pub is_true : Option ℤ → Bool
is_true None = false
is_true (Some value) = not (is_zero value)

abbrev pub word_number : Tool → List ℕ → ℕ
word_number tool name = if is_named (own_keyword tool) name || is_true (predefined name) then 1 else 0

-- the name of a function that is a number or a text; any other word that begins with `$$` is none
abbrev pub is_function : Role → Bool
is_function (Fact fact) = true
is_function (Call function) = true
is_function (Text text) = true
is_function other = false

-- the tokens with each word as its number, unless one is the name of a function
abbrev pub numbered_shape : Tool → Shape → Option Shape
numbered_shape tool (shapes.Word word) = if is_function (role_of word.bytes) then None else Some (shapes.Number (word_number tool word.bytes))
numbered_shape tool other = Some other

abbrev pub put_front : Mark → Option Shape → Option (List Token) → Option (List Token)
put_front mark None rest = None
put_front mark (Some shape) rest = option_map (λ tokens. token_of mark shape ∷ tokens) rest

abbrev pub numbered : Tool → List Token → Option (List Token)
numbered tool [] = Some []
numbered tool (first ∷ rest) = put_front first.mark (numbered_shape tool first.shape) (numbered tool rest)

-- no name has a value, and there are no bits
abbrev pub nothing_seen : Sight
nothing_seen = record { names = record { give = λ key. None }; bits = λ first width. None; fact = λ which. pos 0 }

-- the most tokens of a condition after its macros are replaced
abbrev pub most : ℕ
most = 1024

-- the tokens are one expression, and this is its value
pub record HasValue (tokens : List Token) (value : ℤ) : Type 0 where
  pub term : Term
  pub expression : IsExpression tokens term
  pub gives : value_of term nothing_seen ≡ Ok value

-- few enough tokens, none the name of a function, have this value
pub record Computes (tool : Tool) (tokens : List Token) (value : ℤ) : Type 0 where
  pub few : length tokens ≤ most
  pub numbers : List Token
  pub numbered : numbered tool tokens ≡ Some numbers
  pub has : HasValue numbers value

-- the condition has this value
abbrev pub IsCondition : Live → Tool → List Token → ℤ → Type 0
IsCondition live tool tokens value =
    (told : List Token) × (out : List Token) × Tells live tokens told × ExpandInto live told out × Computes tool out value

abbrev pub bad_condition : Mark → Fault
bad_condition mark = record { number = 114; mark = Some mark; kept = Nothing }

-- a word of it is replaced by too many tokens, or else it has no value
abbrev pub ConditionFails : Live → Tool → Mark → List Token → Fault → Type 0
ConditionFails live tool mark tokens fault =
    (told : List Token) × Tells live tokens told
    × (FirstTooLong live told fault ⊎ ((out : List Token) × ExpandInto live told out × ((value : ℤ) → Computes tool out value → ⊥) × (fault ≡ bad_condition mark)))
