-- How many values the rows that are read have.
use Rattle.std.specs.Prelude.{ℕ, ◌+◌, List, length}
use Rattle.std.specs.List.{sum_by}
use Rattle.rz_types_fields.specs.declared.tree.Tree.{Tree}
use Rattle.rz_types_fields.specs.Spells.{values_in}
use Rattle.rz_unlay.specs.Pieces.{Found}
use Rattle.rz_unlay.specs.Cursor.{Line, Lines}

-- rows count their values, and each row one more
abbrev pub rows_count : List (List Tree) → ℕ
rows_count rows = length rows + sum_by values_in rows

abbrev pub found_count : Found → ℕ
found_count found = values_in found.row

abbrev pub line_count : Line → ℕ
line_count line = values_in line.row

abbrev pub lines_count : Lines → ℕ
lines_count lines = rows_count lines.rows
