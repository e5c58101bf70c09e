use Rattle.std.proofs.Common.{◌≡◌, ◌==◌}
use Rattle.std.specs.List.{find}
use Rattle.rz_bridge.specs.Apple.{entries}
use Rattle.rz_bridge.proofs.Loops.{entries_left}
use Rattle.rz_bridge.proofs.entry.find_entry.Given as goal

abbrev pub invariant-loop-position : goal.invariant-loop-position
invariant-loop-position l =
    find (λ entry. entry.id == l.id) (entries_left l.bytes l.position) ≡ find (λ entry. entry.id == l.id) (entries l.bytes)
