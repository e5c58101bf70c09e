use Rattle.std.proofs.Common.{◌≡◌, take, drop, []}
use Rattle.rz_core.specs.Lists.{first_in}
use Rattle.rz_fork.specs.Layout.{entries}
use Rattle.rz_fork.specs.Rules.{Id}
use Rattle.rz_fork.specs.Code.{in_type}
use Rattle.rz_fork.specs.Code.{AreMarked}
use Rattle.rz_fork.proofs.repeats.id_repeated.Given as goal

abbrev pub invariant-loop-position : goal.invariant-loop-position
invariant-loop-position l = record {
  clear : AreMarked l.seen [];
  rest : first_in (λ before t. in_type Id l.bytes l.outline t) (take l.position (entries l.bytes l.outline)) (drop l.position (entries l.bytes l.outline))
      ≡ first_in (λ before t. in_type Id l.bytes l.outline t) [] (entries l.bytes l.outline);
}
