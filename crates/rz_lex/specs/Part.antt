-- The parts of a joined text in the words of the language: comments, quoted parts, and all other bytes, one by one.
-- (MPW Rez.)
use Rattle.std.specs.Prelude.{◌≡◌, ◌≢◌, ◌⊎◌, ℕ, true, false, List, [], ◌∷◌, ◌++◌}
use Rattle.std.specs.List.{AllByRecursion}
use Rattle.rz_lex.specs.declared.joined.Placed.{Placed}
use Rattle.rz_lex.specs.Classes.{is_quote}
use Rattle.rz_lex.specs.Cover.{begins}
use Rattle.rz_lex.specs.Joined.{is_at}

-- `*/` stands nowhere in the text
abbrev pub NoClose : List Placed → Type 0
NoClose text = (front behind : List Placed) (star slash : Placed) → text ≡ front ++ star ∷ slash ∷ behind → star.byte ≡ 42 → slash.byte ≡ 47 → ⊥

-- the text is at its end, or at the end of a line
abbrev pub AtEnd : List Placed → Type 0
AtEnd text = (text ≡ []) ⊎ (is_at 10 text ≡ true)

-- bytes between quote marks: each is neither the mark nor a backslash nor a line end, or it is a backslash with the
-- byte that it takes along, which is no line end
pub data InQuote (quote : ℕ) : List Placed → Type 0 where
  nothing : InQuote quote []
  plain : (a : Placed) (more : List Placed) → a.byte ≢ quote → a.byte ≢ 92 → a.byte ≢ 10 → InQuote quote more → InQuote quote (a ∷ more)
  taken : (a b : Placed) (more : List Placed) → a.byte ≡ 92 → b.byte ≢ 10 → InQuote quote more → InQuote quote (a ∷ b ∷ more)

-- how a quoted part ends: with the mark; with the line or the text; or with a backslash at such an end
pub data EndsQuote (quote : ℕ) (tail rest : List Placed) : Type 0 where
  with_mark : (mark : Placed) → mark.byte ≡ quote → tail ≡ mark ∷ [] → EndsQuote quote tail rest
  with_line : AtEnd rest → tail ≡ [] → EndsQuote quote tail rest
  with_backslash : (a : Placed) → a.byte ≡ 92 → AtEnd rest → tail ≡ a ∷ [] → EndsQuote quote tail rest

-- a part, before this rest: a comment from `/*` to the first `*/`; a comment from `//` to the end of the line; a quoted
-- part; or a single byte or line end, where none of these begins
pub data IsPart (part rest : List Placed) : Type 0 where
  block : (a b star slash : Placed) (body : List Placed) → a.byte ≡ 47 → b.byte ≡ 42 → star.byte ≡ 42 → slash.byte ≡ 47
      → NoClose (body ++ star ∷ []) → part ≡ a ∷ b ∷ (body ++ star ∷ slash ∷ []) → IsPart part rest
  slashes : (a b : Placed) (body : List Placed) → a.byte ≡ 47 → b.byte ≡ 47 → AllByRecursion (λ placed. placed.byte ≢ 10) body → AtEnd rest
      → part ≡ a ∷ b ∷ body → IsPart part rest
  quoted : (mark : Placed) (body tail : List Placed) → is_quote mark.byte ≡ true → InQuote mark.byte body → EndsQuote mark.byte tail rest
      → part ≡ mark ∷ (body ++ tail) → IsPart part rest
  other : (a : Placed) → is_quote a.byte ≡ false → begins 47 42 (a ∷ rest) ≡ false → begins 47 47 (a ∷ rest) ≡ false → part ≡ a ∷ [] → IsPart part rest

-- the text begins with a comment that never ends
abbrev pub IsOpen : List Placed → Type 0
IsOpen text = (a : Placed) × (b : Placed) × (body : List Placed) × (text ≡ a ∷ b ∷ body) × (a.byte ≡ 47) × (b.byte ≡ 42) × NoClose body
