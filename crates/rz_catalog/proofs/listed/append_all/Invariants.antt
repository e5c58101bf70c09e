use Rattle.std.proofs.Common.{◌≡◌, ◌++◌, ◌-◌, ◌≤◌, List, length, take}
use Rattle.rz_types_table.specs.TypeTable.{table_of}
use Rattle.rz_catalog.specs.Catalogue.{catalogue}
use Rattle.rz_catalog.specs.Stock.{AreStocked, Stocked}
use Rattle.rz_catalog.proofs.listed.append_all.Given as goal

abbrev pub invariant-loop-k : goal.invariant-loop-k
invariant-loop-k l = record {
  within : l.k ≤ length l.list;
  into : (stock : List Stocked) → AreStocked (table_of l.types) l.moment l.list stock → l.into ≡ l.fn.into ++ catalogue (take l.k stock);
}

abbrev pub decreases-loop-k : goal.decreases-loop-k
decreases-loop-k l = length l.list - l.k
