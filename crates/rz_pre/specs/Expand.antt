-- What stands in place of a word, by two rules: a token that is no live macro is itself, and a word that is one is the
-- expansions of the macro's tokens, with the macro hidden inside them. (MPW Rez.)
use Rattle.std.specs.Prelude.{◌≡◌, ℕ, ◌+◌, ◌<◌, ◌≤◌, List, [], ◌∷◌, ◌++◌, map, Some, None}
use Rattle.rz_lex.specs.Printed.{token_of}
use Rattle.rz_lex.specs.declared.token.Shape.{Shape}
use Rattle.rz_lex.specs.declared.token.Token.{Token}
use Rattle.rz_pre.specs.Live.{body_of, hide, name_of, Live}

mutual
  -- a token, what stands in its place, and how many tokens were handled: itself, and each token of each replacement
  pub data Expansion : Live → Shape → List Shape → ℕ → Type 0 where
    bare : {live : Live} {s : Shape} {out : List Shape} {n : ℕ} → body_of live s ≡ None → out ≡ s ∷ [] → n ≡ 1 → Expansion live s out n
    replaced : {live : Live} {s : Shape} {out : List Shape} {n : ℕ} (body : List Shape) (m : ℕ)
        → body_of live s ≡ Some body → Expansions (hide (name_of s) live) body out m → n ≡ 1 + m → Expansion live s out n

  -- the same of several tokens, one after the other
  pub data Expansions : Live → List Shape → List Shape → ℕ → Type 0 where
    nothing : {live : Live} {out : List Shape} {n : ℕ} → out ≡ [] → n ≡ 0 → Expansions live [] out n
    more : {live : Live} {s : Shape} {ss out : List Shape} {n : ℕ} (a b : List Shape) (i j : ℕ)
        → Expansion live s a i → Expansions live ss b j → out ≡ a ++ b → n ≡ i + j → Expansions live (s ∷ ss) out n

-- the most tokens that are handled for one word
abbrev pub limit : ℕ
limit = 65536

-- a token is replaced by these tokens, all at its place
pub record ExpandsTo (live : Live) (token : Token) (tokens : List Token) : Type 0 where
  pub shapes : List Shape
  pub work : ℕ
  pub expansion : Expansion live token.shape shapes work
  pub few : work ≤ limit
  pub placed : tokens ≡ map (token_of token.mark) shapes

-- too many tokens are handled for it
abbrev pub IsTooLong : Live → Token → Type 0
IsTooLong live token = (shapes : List Shape) (work : ℕ) → Expansion live token.shape shapes work → limit < work
