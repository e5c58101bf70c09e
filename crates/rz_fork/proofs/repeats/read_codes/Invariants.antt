use Rattle.std.proofs.Common.{◌≡◌, take, map, length}
use Rattle.rz_fork.specs.Layout.{entries}
use Rattle.rz_fork.proofs.repeats.read_codes.Given as goal

abbrev pub invariant-loop-position : goal.invariant-loop-position
invariant-loop-position l = record {
  long : length l.codes ≡ l.outline.count;
  read : take l.position l.codes ≡ map (λ t. t.code) (take l.position (entries l.bytes l.outline));
}
