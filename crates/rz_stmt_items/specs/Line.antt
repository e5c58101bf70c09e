-- A row and the items that are left, as the code holds them.
use Rattle.std.specs.Prelude.{List, drop}
use Rattle.rz_stmt_items.specs.Item.{plain_items}
use Rattle.rz_stmt_items.specs.declared.item.Item.{Item}
use Rattle.rz_stmt_items.specs.Matched as matched
use Rattle.rz_stmt_items.specs.declared.matching.Line.{Line}

abbrev pub line_of : List Item → Line → matched.Line
line_of all line = record { row = line.row; before = line.before; rest = plain_items (drop line.before all) }
