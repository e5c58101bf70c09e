use Rattle.std.proofs.Common.{◌≡◌, ◌≤◌, length, map}
use Rattle.std.specs.List.{AllByRecursion}
use Rattle.rz_core.specs.Lists.{first_of}
use Rattle.rz_tools_output.specs.Base.{too_long}
use Rattle.rz_tools_output.proofs.base.all_short.Given as goal

abbrev pub invariant-loop-one : goal.invariant-loop-one
invariant-loop-one l = record {
  first : first_of (map too_long l.fork.list) ≡ first_of (map too_long l.walk);
  rest : AllByRecursion (λ r. length r.bytes ≤ 16777212) l.walk → AllByRecursion (λ r. length r.bytes ≤ 16777212) l.fork.list;
}

abbrev pub decreases-loop-one : goal.decreases-loop-one
decreases-loop-one l = length l.walk
