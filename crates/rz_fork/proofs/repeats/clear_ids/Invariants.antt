use Rattle.std.proofs.Common.{◌≡◌, ◌==◌, ℕ, false, drop, get_or}
use Rattle.std.specs.List.{list_any}
use Rattle.rz_fork.specs.Layout.{references}
use Rattle.rz_fork.proofs.repeats.clear_ids.Given as goal

-- an id that no reference from here on has is clear
abbrev pub invariant-loop-position : goal.invariant-loop-position
invariant-loop-position l = (id : ℕ) → list_any (λ r. r.id == id) (drop l.position (references l.bytes l.entry)) ≡ false → get_or l.seen id false ≡ false
