use Rattle.std.proofs.Common.{◌≡◌, ◌-◌, ◌≤◌, List, length, map, take}
use Rattle.rz_types_table.specs.TypeTable.{table_of}
use Rattle.rz_catalog.specs.Held.{held_of, key_eq, resource_key, AreFirst}
use Rattle.rz_catalog.specs.Stock.{AreStocked, Stocked}
use Rattle.rz_catalog.proofs.stock.Stock.of.Given as goal

abbrev pub invariant-loop-k : goal.invariant-loop-k
invariant-loop-k l = record {
  within : l.k ≤ length l.list;
  places : (stock : List Stocked) → AreStocked (table_of l.types) l.moment l.list stock → AreFirst key_eq (map (λ s. resource_key s.resource) (take l.k stock)) l.places;
  each : (stock : List Stocked) → AreStocked (table_of l.types) l.moment l.list stock → l.each ≡ map held_of (take l.k stock);
}

abbrev pub decreases-loop-k : goal.decreases-loop-k
decreases-loop-k l = length l.list - l.k
