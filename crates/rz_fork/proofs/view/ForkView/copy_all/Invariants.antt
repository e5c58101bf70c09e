use Rattle.std.proofs.Common.{◌≡◌, ◌++◌, length}
use Rattle.rz_fork.proofs.view.ForkView.copy_all.Given as goal

abbrev pub invariant-loop-one : goal.invariant-loop-one
invariant-loop-one l = l.list ++ l.walk ≡ l.self.list

abbrev pub decreases-loop-one : goal.decreases-loop-one
decreases-loop-one l = length l.walk
