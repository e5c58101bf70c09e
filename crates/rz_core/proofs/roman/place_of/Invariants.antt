use Rattle.std.proofs.Common.{◌≡◌, ◌+◌, ◌≤◌, length}
use Rattle.rz_core.specs.Roman.{place_from}
use Rattle.rz_core.proofs.roman.place_of.Given as goal

abbrev pub invariant-loop-rest : goal.invariant-loop-rest
invariant-loop-rest l = record {
  same : place_from l.place l.rest l.character ≡ place_from 128 l.table l.character;
  within : l.place + length l.rest ≤ 256;
}

abbrev pub decreases-loop-rest : goal.decreases-loop-rest
decreases-loop-rest l = length l.rest
