-- The macros that are live at some moment. (MPW Rez.)
use Rattle.std.specs.Prelude.{ℕ, suc, Bool, true, not, ◌&&◌, is_some, if◌then◌else◌, List, [], ◌∷◌, map, get_or, Option, None, option_map, unwrap_or}
use Rattle.std.specs.Str.{bytes_eq, str_to_ascii_lowercase}
use Rattle.rz_lex.specs.declared.token.Shape.{Shape}
use Rattle.rz_lex.specs.declared.token.Shape.TheVariants as shapes
use Rattle.rz_lex.specs.declared.token.Token.{Token}

-- what stands in place of each name, in lower case, that is a macro
abbrev pub Live : Type 0
Live = List ℕ → Option (List Shape)

-- all but one name
abbrev pub hide : List ℕ → Live → Live
hide name live other = if bytes_eq name other then None else live other

-- with a name that has these tokens from here on, or none
abbrev pub put : List ℕ → Option (List Shape) → Live → Live
put name body live other = if bytes_eq other name then body else live other

-- what stands in place of a token: a word's name counts in whatever case, and no other token is replaced
abbrev pub body_of : Live → Shape → Option (List Shape)
body_of live (shapes.Word word) = live (str_to_ascii_lowercase word.bytes)
body_of live other = None

-- the name by which a token is looked up
abbrev pub name_of : Shape → List ℕ
name_of (shapes.Word word) = str_to_ascii_lowercase word.bytes
name_of other = []

-- the tokens of a macro without their places
abbrev pub shapes_of : List Token → List Shape
shapes_of tokens = map (λ token. token.shape) tokens

-- Macros as they are held: rows in the order in which the names were first named, each a name in lower case and its
-- tokens, or none where it is undefined.

abbrev pub Row : Type 0
Row = List ℕ × Option (List Shape)

-- what the rows make live
abbrev pub live_in : List Row → Live
live_in [] name = None
live_in (row ∷ rows) name = if bytes_eq name row.0 then row.1 else live_in rows name

-- the position of the row of a name that is live
abbrev pub live_row : List Row → List ℕ → Option ℕ
live_row [] name = None
live_row (row ∷ rows) name =
    if bytes_eq name row.0
    then option_map (λ body. 0) row.1
    else option_map (λ k. suc k) (live_row rows name)

abbrev pub row_at : List Row → ℕ → Row
row_at rows k = get_or rows k ([], None)

abbrev pub name_at : List Row → ℕ → List ℕ
name_at rows k = (row_at rows k).0

abbrev pub body_at : List Row → ℕ → List Shape
body_at rows k = unwrap_or (row_at rows k).1 []

-- the position of the row of the macro that a token names
abbrev pub token_row : List Row → Shape → Option ℕ
token_row rows (shapes.Word word) = live_row rows (str_to_ascii_lowercase word.bytes)
token_row rows other = None

-- no token names a live macro
abbrev pub are_bare : List Row → List Token → Bool
are_bare rows [] = true
are_bare rows (token ∷ tokens) = not (is_some (token_row rows token.shape)) && are_bare rows tokens
