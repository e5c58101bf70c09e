-- Texts that are given piece by piece.
use Rattle.std.specs.Prelude.{ℕ, List, [], Option, Some, None}
use Rattle.rz_show_lines.specs.declared.text.Text.{Text}
use Rattle.rz_show_lines.specs.Print.{text_lines}
use Rattle.rz_show_lines.specs.Written.{Written}

-- the lines of what is left of a text
abbrev pub pending_lines : (depth : ℕ) → (behind : List Written) → Option Text → List (List Written)
pending_lines depth behind None = []
pending_lines depth behind (Some text) = text_lines depth behind text.hex text.bytes.now

-- what stands after a piece of a text: nothing where others follow
abbrev pub behind_piece : Option Text → List Written → List Written
behind_piece None behind = behind
behind_piece (Some text) behind = []
