use Rattle.std.proofs.Common.{◌-◌, ◌≤◌, List, drop, length}
use Rattle.rz_types_table.specs.TypeTable.{table_of}
use Rattle.rz_catalog.specs.Apply.{IsRestrung}
use Rattle.rz_catalog.specs.Stock.{AreStocked, Stocked}
use Rattle.rz_catalog.proofs.InTurn.{LeadTo}
use Rattle.rz_catalog.proofs.applying.restring_all.Given as goal

abbrev pub invariant-loop-k : goal.invariant-loop-k
invariant-loop-k l = record {
  within : l.k ≤ length l.list;
  lead : (stock : List Stocked) → AreStocked (table_of l.types) l.moment l.list stock
      → LeadTo (IsRestrung (table_of l.types) l.moment l.entries) stock (drop l.k stock) l.news;
}

abbrev pub decreases-loop-k : goal.decreases-loop-k
decreases-loop-k l = length l.list - l.k
