-- A source that is read one logical line at a time.
use Rattle.std.specs.Prelude.{ℕ, ◌-◌, List, drop, length}
use Rattle.rz_lex.specs.Joined.{joined}
use Rattle.rz_lex.specs.declared.joined.Placed.{Placed}

-- its position in the list of files, how many bytes of its text aren't read yet, and the joined text that stands ahead
pub record Source : Type 0 where
  pub file : ℕ
  pub left : ℕ
  pub ahead : List Placed

-- of this text, of which the bytes from this place on aren't read yet, and the first of them stands on this physical
-- line
abbrev pub source_of : ℕ → List ℕ → ℕ → ℕ → Source
source_of file text at line = record { file = file; left = length text - at; ahead = joined line (drop at text) }
