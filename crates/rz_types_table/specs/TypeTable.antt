-- A table as contracts see it: the list of its declarations.
use Rattle.std.specs.Prelude.{List}
use Rattle.rz_types_table.specs.Listed.{listed}
use Rattle.rz_types_table.specs.Table.{Declaration}
use Rattle.rz_types_table.specs.declared.table.TypeTable.{TypeTable}

abbrev pub table_of : TypeTable → List Declaration
table_of table = listed table.declared.items
