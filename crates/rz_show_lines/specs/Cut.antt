-- What a line holds.
use Rattle.std.specs.Prelude.{ℕ, ◌≤◌, List, length, take}
use Rattle.rz_show_lines.specs.Written.{as_line, Written}

-- the bytes that fit on a line
unfoldable pub cut : List ℕ → List ℕ
cut bytes = take 512 bytes

-- a line that a buffer holds
abbrev pub IsShort : List Written → Type 0
IsShort line = length (as_line line) ≤ 512
