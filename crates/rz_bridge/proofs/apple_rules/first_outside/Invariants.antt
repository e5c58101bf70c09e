use Rattle.std.proofs.Common.{◌≡◌, map}
use Rattle.rz_core.specs.Lists.{first_of}
use Rattle.rz_bridge.specs.Apple.{entries, entry_outside}
use Rattle.rz_bridge.proofs.Loops.{entries_left}
use Rattle.rz_bridge.proofs.apple_rules.first_outside.Given as goal

abbrev pub invariant-loop-position : goal.invariant-loop-position
invariant-loop-position l =
    first_of (map (entry_outside l.bytes) (entries_left l.bytes l.position)) ≡ first_of (map (entry_outside l.bytes) (entries l.bytes))
