-- The joined text of a source: its bytes and line ends, each with the physical line on which it stands, without each
-- backslash that stands directly before a line end and without that line end. (MPW Rez.)
use Rattle.std.specs.Prelude.{◌≡◌, ◌-◌, drop, ℕ, ◌+◌, ◌<◌, ◌≤◌, length, Bool, false, ◌&&◌, ◌==◌, if◌then◌else◌, List, [], ◌∷◌}
use Rattle.rz_lex.specs.declared.joined.Placed.{Placed}
use Rattle.rz_lex.specs.declared.joined.Position.{Position}

-- the bytes begin with this one
abbrev pub next_is : ℕ → List ℕ → Bool
next_is byte [] = false
next_is byte (first ∷ rest) = first == byte

-- the bytes with each line end, CR LF, CR or LF, as one LF
abbrev pub with_feeds : List ℕ → List ℕ
with_feeds [] = []
with_feeds (b ∷ bs) = if b == 13 then (if next_is 10 bs then with_feeds bs else 10 ∷ with_feeds bs) else b ∷ with_feeds bs

-- each byte with its physical line, where the first stands on this one
abbrev pub numbered : ℕ → List ℕ → List Placed
numbered line [] = []
numbered line (b ∷ bs) = record { byte = b; line = line } ∷ numbered (if b == 10 then line + 1 else line) bs

-- the text begins with this byte
abbrev pub is_at : ℕ → List Placed → Bool
is_at byte [] = false
is_at byte (first ∷ rest) = first.byte == byte

-- the text without each backslash directly before a line end, and without that line end
abbrev mutual
  pub continued : List Placed → List Placed
  continued [] = []
  continued (first ∷ rest) = if first.byte == 92 && is_at 10 rest then behind_end rest else first ∷ continued rest

  pub behind_end : List Placed → List Placed
  behind_end [] = []
  behind_end (line_end ∷ rest) = continued rest

-- the joined text of these bytes, of which the first stands on this physical line
abbrev pub joined : ℕ → List ℕ → List Placed
joined line bytes = continued (numbered line (with_feeds bytes))

-- the joined text that stands ahead of a position
abbrev pub ahead : Position → List Placed
ahead place = joined place.line place.rest.now

-- a place is as far on as another or further
pub record IsOn (start place : Position) : Type 0 where
  pub suffix : place.rest.now ≡ drop (length start.rest.now - length place.rest.now) start.rest.now
  pub shorter : length place.rest.now ≤ length start.rest.now
  pub within : place.line + length place.rest.now ≤ start.line + length start.rest.now

-- a place is further on than another
pub record IsFurther (start place : Position) : Type 0 where
  pub suffix : place.rest.now ≡ drop (length start.rest.now - length place.rest.now) start.rest.now
  pub shorter : length place.rest.now < length start.rest.now
  pub within : place.line + length place.rest.now ≤ start.line + length start.rest.now
