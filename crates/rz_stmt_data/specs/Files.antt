-- A file as a statement names it: one text or more, joined. (MPW Rez.)
use Rattle.std.specs.Prelude.{◌≡◌, ◌≢◌, ℕ, Bool, false, if◌then◌else◌, List, [], ◌∷◌, ◌++◌, map, Option, Some, None}
use Rattle.std.specs.List.{concat}
use Rattle.std.specs.Option.{is_some}
use Rattle.rz_lex.specs.declared.token.Shape.{Shape}
use Rattle.rz_lex.specs.declared.token.Shape.TheVariants as shapes
use Rattle.rz_lex.specs.declared.token.Token.{Token}

pub record IsFile (tokens : List Token) (name : List ℕ) : Type 0 where
  pub texts : List (List ℕ)
  pub are : map (λ token. token.shape) tokens ≡ map shapes.Text texts
  pub some : texts ≢ []
  pub joined : name ≡ concat texts

-- As it is read.

-- the bytes of a text
abbrev pub text_of : Shape → Option (List ℕ)
text_of (shapes.Text bytes) = Some bytes
text_of shape = None

-- a text stands first
abbrev pub begins_with_text : List Token → Bool
begins_with_text [] = false
begins_with_text (token ∷ tokens) = is_some (text_of token.shape)

-- the bytes of the texts at the front, joined
abbrev pub with_text : Option (List ℕ) → List ℕ → List ℕ
with_text None more = []
with_text (Some bytes) more = bytes ++ more

abbrev pub texts_at_front : List Token → List ℕ
texts_at_front [] = []
texts_at_front (token ∷ tokens) = with_text (text_of token.shape) (texts_at_front tokens)

-- what stands after them
abbrev pub past_text : Option (List ℕ) → List Token → List Token → List Token
past_text None here past = here
past_text (Some bytes) here past = past

abbrev pub behind_texts : List Token → List Token
behind_texts [] = []
behind_texts (token ∷ tokens) = past_text (text_of token.shape) (token ∷ tokens) (behind_texts tokens)

-- the file at the front, where one is named there
abbrev pub file_in : List Token → Option (List ℕ)
file_in tokens = if begins_with_text tokens then Some (texts_at_front tokens) else None
