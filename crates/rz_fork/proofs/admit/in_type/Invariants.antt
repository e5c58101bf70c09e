use Rattle.std.proofs.Common.{◌≡◌, take, drop, []}
use Rattle.rz_core.specs.Lists.{first_in}
use Rattle.rz_fork.specs.Layout.{references}
use Rattle.rz_fork.specs.Rules.{reference_rule}
use Rattle.rz_fork.specs.Code.{tested_by}
use Rattle.rz_fork.proofs.admit.in_type.Given as goal

abbrev pub invariant-loop-position : goal.invariant-loop-position
invariant-loop-position l =
    first_in (reference_rule (tested_by l.rule) l.bytes l.outline) (take l.position (references l.bytes l.entry)) (drop l.position (references l.bytes l.entry))
    ≡ first_in (reference_rule (tested_by l.rule) l.bytes l.outline) [] (references l.bytes l.entry)
