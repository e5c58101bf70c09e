use Rattle.std.proofs.Common.{length}
use Rattle.rz_tools_output.proofs.Declaring.{GoesOn}
use Rattle.rz_tools_output.proofs.declared.declared_by.Given as goal
use Rattle.rz_types_table.specs.TypeTable.{table_of}

abbrev pub invariant-loop-one : goal.invariant-loop-one
invariant-loop-one l = GoesOn (table_of l.types) l.walk l.fork.list

abbrev pub decreases-loop-one : goal.decreases-loop-one
decreases-loop-one l = length l.walk
