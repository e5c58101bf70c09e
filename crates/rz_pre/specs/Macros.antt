-- The macros that the code holds, as rows.
use Rattle.std.specs.Prelude.{List, map, option_map}
use Rattle.rz_pre.specs.Live.{shapes_of, Row}
use Rattle.rz_pre.specs.declared.macros.Macros.{Macros}

abbrev pub rows_of : Macros → List Row
rows_of macros = map (λ entry. (entry.0.items, option_map shapes_of entry.1)) macros.held.entries
