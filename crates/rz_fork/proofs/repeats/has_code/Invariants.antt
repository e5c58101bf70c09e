use Rattle.std.proofs.Common.{◌≡◌, ◌==◌, false, take}
use Rattle.std.specs.List.{list_any}
use Rattle.rz_fork.specs.Layout.{entries}
use Rattle.rz_fork.proofs.repeats.has_code.Given as goal

abbrev pub invariant-loop-position : goal.invariant-loop-position
invariant-loop-position l = list_any (λ b. b.code == l.code) (take l.position (entries l.bytes l.fn.outline)) ≡ false
