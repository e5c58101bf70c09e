use Rattle.std.proofs.Common.{◌≡◌, take, drop, []}
use Rattle.rz_core.specs.Lists.{first_in}
use Rattle.rz_fork.specs.Layout.{references}
use Rattle.rz_fork.specs.Rules.{id_rule}
use Rattle.rz_fork.specs.Code.{AreMarked}
use Rattle.rz_fork.proofs.repeats.mark_ids.Given as goal

abbrev pub invariant-loop-position : goal.invariant-loop-position
invariant-loop-position l = record {
  marked : AreMarked l.seen (take l.position (references l.bytes l.entry));
  rest : first_in id_rule (take l.position (references l.bytes l.entry)) (drop l.position (references l.bytes l.entry)) ≡ first_in id_rule [] (references l.bytes l.entry);
}
