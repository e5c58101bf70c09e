-- What the code holds of the work so far.
use Rattle.rz_types_table.specs.TypeTable.{table_of}
use Rattle.rz_tools_work.specs.Work as work
use Rattle.rz_tools_work.specs.declared.work.Work.{Work}

abbrev pub work_of : Work → work.Work
work_of work = record { types = table_of work.types; list = work.resources; warnings = work.warnings }
