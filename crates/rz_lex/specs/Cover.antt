-- The cover of a joined text by its parts: comments, quoted parts, line ends and all other bytes, one by one.
use Rattle.std.specs.Prelude.{◌≡◌, ◌≢◌, ℕ, Bool, false, ◌&&◌, ◌||◌, ◌==◌, if◌then◌else◌, List, [], ◌∷◌, ◌++◌, map, drop, Option, Some, None}
use Rattle.rz_lex.specs.declared.joined.Placed.{Placed}
use Rattle.rz_lex.specs.Classes.{is_quote}
use Rattle.rz_lex.specs.Joined.{is_at}

-- the text begins with these two bytes
abbrev pub begins : ℕ → ℕ → List Placed → Bool
begins one two [] = false
begins one two (first ∷ rest) = first.byte == one && is_at two rest

-- what stands after the first `*/`
abbrev pub after_close : List Placed → Option (List Placed)
after_close [] = None
after_close (first ∷ rest) = if first.byte == 42 && is_at 47 rest then Some (drop 1 rest) else after_close rest

-- what stands after the text of the line: its line end and all that follows it
abbrev pub after_text : List Placed → List Placed
after_text [] = []
after_text (first ∷ rest) = if first.byte == 10 then first ∷ rest else after_text rest

-- what stands after the first such quote mark in the line, or after the text of the line where it has none; a
-- backslash takes the next byte of the line along
abbrev mutual
  pub after_quote : ℕ → List Placed → List Placed
  after_quote quote [] = []
  after_quote quote (first ∷ rest) =
      if first.byte == 10 then first ∷ rest
      else if first.byte == quote then rest
      else if first.byte == 92 then after_taken quote rest
      else after_quote quote rest

  pub after_taken : ℕ → List Placed → List Placed
  after_taken quote [] = []
  after_taken quote (first ∷ rest) = if first.byte == 10 then first ∷ rest else after_quote quote rest

-- what stands after the first part of a text: a comment from `/*` to `*/`, a comment from `//` to the end of its
-- line, a quoted part, or one byte; there is none in an empty text, nor where a comment begins that never ends
abbrev pub after_part : List Placed → Option (List Placed)
after_part [] = None
after_part (first ∷ rest) =
    if begins 47 42 (first ∷ rest) then after_close (drop 1 rest)
    else if begins 47 47 (first ∷ rest) then Some (after_text rest)
    else if is_quote first.byte then Some (after_quote first.byte rest)
    else Some rest

-- these are the first parts of a text, one after the other, and this stands after them
abbrev pub Parts : List Placed → List (List Placed) → List Placed → Type 0
Parts text [] rest = text ≡ rest
Parts text (part ∷ parts) rest =
    (behind : List Placed) × (text ≡ part ++ behind) × (after_part text ≡ Some behind) × Parts behind parts rest

-- these are the parts of the whole text
abbrev pub Cover : List Placed → List (List Placed) → Type 0
Cover text parts = Parts text parts []

-- the bytes without their lines
abbrev pub bytes_of : List Placed → List ℕ
bytes_of text = map (λ placed. placed.byte) text

-- what a part leaves in its line: of a comment one blank, of any other its bytes
abbrev pub text_of : List Placed → List ℕ
text_of part = if begins 47 42 part || begins 47 47 part then 32 ∷ [] else bytes_of part

-- the first part of a text, which is no line end, was taken, and what it leaves in its line was appended
pub record TakesPart (text rest : List Placed) (old new : List ℕ) : Type 0 where
  pub part : List Placed
  pub whole : text ≡ part ++ rest
  pub after : after_part text ≡ Some rest
  pub inside : is_at 10 part ≡ false
  pub there : part ≢ []
  pub left : new ≡ old ++ text_of part
