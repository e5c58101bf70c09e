use Rattle.std.proofs.Common.{[], length}
use Rattle.rz_tools.proofs.ListedAll.{IsSoFar}
use Rattle.rz_types_table.specs.TypeTable.{table_of}
use Rattle.rz_tools.proofs.listed.listed.Given as goal

abbrev pub invariant-loop-one : goal.invariant-loop-one
invariant-loop-one l = IsSoFar (table_of l.types) l.moment l.fork.list [] l.walk l.text

abbrev pub decreases-loop-one : goal.decreases-loop-one
decreases-loop-one l = length l.walk
