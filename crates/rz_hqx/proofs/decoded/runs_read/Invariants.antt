use Rattle.std.proofs.Common.{◌≡◌, ◌*◌, ◌≤◌, drop}
use Rattle.rz_hqx.specs.Held.{undone}
use Rattle.rz_hqx.specs.Runs.{unpacked}
use Rattle.rz_hqx.proofs.decoded.runs_read.Given as goal

abbrev pub invariant-loop-code : goal.invariant-loop-code
invariant-loop-code l = record {
  so_far : undone l.undoing (drop l.code-index l.coded) ≡ unpacked l.coded;
  place : l.undoing.place ≤ 2 * l.code-index;
}
