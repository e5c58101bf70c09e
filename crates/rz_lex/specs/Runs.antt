-- Bytes that are taken in one piece: a run of parts that are single bytes, and a run within a quoted part or a comment.
use Rattle.std.specs.Prelude.{◌≡◌, ◌≢◌, ℕ, Bool, true, false, ◌&&◌, ◌||◌, ◌==◌, not, List, [], ◌∷◌, ◌++◌}
use Rattle.std.specs.List.{flat_map, AllByRecursion}
use Rattle.rz_lex.specs.declared.joined.Placed.{Placed}
use Rattle.rz_lex.specs.Classes.{is_quote}
use Rattle.rz_lex.specs.Cover.{bytes_of, text_of, Parts}
use Rattle.rz_lex.specs.Joined.{is_at}

-- other than this byte, a backslash and the bytes of a line end
abbrev pub is_unbroken : ℕ → ℕ → Bool
is_unbroken stop byte = not (byte == stop) && not (byte == 92) && not (byte == 10) && not (byte == 13)

-- a byte that is a part by itself: other than a slash, a quote mark, a backslash and the bytes of a line end
abbrev pub is_plain : ℕ → Bool
is_plain byte = is_unbroken 47 byte && not (is_quote byte)

-- these bytes, each of which passes the test, stand before the rest of the text
pub record HasRun (test : ℕ → Bool) (text : List Placed) (run : List ℕ) (rest : List Placed) : Type 0 where
  pub front : List Placed
  pub whole : text ≡ front ++ rest
  pub bytes : run ≡ bytes_of front
  pub all : AllByRecursion (λ placed. test placed.byte ≡ true) front

-- these bytes stand at the end of a line: a line end stands first, or nothing
abbrev pub ends_line : List ℕ → Bool
ends_line [] = true
ends_line (byte ∷ bytes) = byte == 10 || byte == 13

-- the same of a text
abbrev pub ends_here : List Placed → Bool
ends_here [] = true
ends_here (first ∷ rest) = first.byte == 10

-- a part that is no line end
abbrev pub IsInside : List Placed → Type 0
IsInside part = (is_at 10 part ≡ false) × (part ≢ [])

-- first parts of the text, none of which is a line end, were taken, and what they leave in their line was appended
pub record TakesParts (text rest : List Placed) (old new : List ℕ) : Type 0 where
  pub parts : List (List Placed)
  pub taken : Parts text parts rest
  pub inside : AllByRecursion IsInside parts
  pub left : new ≡ old ++ flat_map text_of parts
