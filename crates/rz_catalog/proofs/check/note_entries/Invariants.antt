use Rattle.std.proofs.Common.{◌≡◌, ◌-◌, ◌≤◌, List, drop, length, map, take}
use Rattle.rz_core.specs.Lists.{first_in}
use Rattle.rz_catalog.specs.Apply.{entry_fault, first_refused}
use Rattle.rz_catalog.specs.Held.{entry_key, key_eq, leaf_eq, leaf_key, AreFirst, IsHeld}
use Rattle.rz_catalog.specs.Stock.{Stocked}
use Rattle.rz_catalog.proofs.check.note_entries.Given as goal

abbrev pub invariant-loop-k : goal.invariant-loop-k
invariant-loop-k l = record {
  within : l.k ≤ length l.entries;
  firsts : AreFirst key_eq (map entry_key (take l.k l.entries)) l.firsts;
  leaves : AreFirst leaf_eq (map leaf_key (take l.k l.entries)) l.leaves;
  none : (stock : List Stocked) → IsHeld stock l.held → first_in (entry_fault l.over stock) (take l.k l.entries) (drop l.k l.entries) ≡ first_refused l.over stock l.entries;
}

abbrev pub decreases-loop-k : goal.decreases-loop-k
decreases-loop-k l = length l.entries - l.k
