use Rattle.std.proofs.Common.{◌≡◌, take, drop, []}
use Rattle.rz_core.specs.Lists.{first_in}
use Rattle.rz_fork.specs.Layout.{entries}
use Rattle.rz_fork.specs.Rules.{type_rule}
use Rattle.rz_fork.proofs.repeats.first_repeated.Given as goal

abbrev pub invariant-loop-position : goal.invariant-loop-position
invariant-loop-position l =
    first_in type_rule (take l.position (entries l.bytes l.outline)) (drop l.position (entries l.bytes l.outline)) ≡ first_in type_rule [] (entries l.bytes l.outline)
