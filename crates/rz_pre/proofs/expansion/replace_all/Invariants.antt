use Rattle.std.proofs.Common.{◌+◌, ◌*◌, length}
use Rattle.rz_pre.specs.Macros.{rows_of}
use Rattle.rz_pre.proofs.Made.{Making}
use Rattle.rz_pre.proofs.expansion.replace_all.Given as goal

abbrev pub invariant-loop-inner : goal.invariant-loop-inner
invariant-loop-inner l = Making (rows_of l.macros) l.token.shape l.token.mark l.frames.entries l.done l.budget

abbrev pub decreases-loop-inner : goal.decreases-loop-inner
decreases-loop-inner l = 2 * l.budget + length l.frames.entries
