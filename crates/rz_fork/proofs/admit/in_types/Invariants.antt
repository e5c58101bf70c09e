use Rattle.std.proofs.Common.{◌≡◌, take, drop, []}
use Rattle.rz_core.specs.Lists.{first_in}
use Rattle.rz_fork.specs.Layout.{entries}
use Rattle.rz_fork.specs.Code.{in_type}
use Rattle.rz_fork.specs.Code.{tested_by}
use Rattle.rz_fork.proofs.admit.in_types.Given as goal

abbrev pub invariant-loop-position : goal.invariant-loop-position
invariant-loop-position l =
    first_in (λ before t. in_type (tested_by l.rule) l.bytes l.outline t) (take l.position (entries l.bytes l.outline)) (drop l.position (entries l.bytes l.outline))
    ≡ first_in (λ before t. in_type (tested_by l.rule) l.bytes l.outline t) [] (entries l.bytes l.outline)
