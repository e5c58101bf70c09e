use Rattle.std.proofs.Common.{◌≡◌, ◌++◌, replicate}
use Rattle.std.specs.List.{flat_map}
use Rattle.rz_hqx.specs.Runs.{literal}
use Rattle.rz_hqx.proofs.coded.append_literals.Given as goal

abbrev pub invariant-loop : goal.invariant-loop
invariant-loop l = l.out ≡ l.initial.out ++ flat_map literal (replicate l.counter l.byte)
