use Rattle.rz_types_table.specs.TypeTable.{table_of}
use Rattle.rz_tools_text.proofs.Rows.{known_so}
use Rattle.rz_tools_text.proofs.shown.Known.of.Goals as goal

pub returns : goal.returns
returns c = known_so (table_of c.args.types) c.in_ok-macros.macros c.args.moment c.as_slice.result.now c.args.macros.now c.as_slice.ensures c.in_ok-macros.ensures
