-- A refused entry is the answer of all.
use Rattle.std.proofs.Common.{◌≡◌, Bool, List, Some, Option, refl, sym, subst}
use Rattle.std.specs.Prelude.{Err}
use Rattle.rz_core.specs.Stop.{Meets, OnFault}
use Rattle.rz_core.specs.declared.fault.Fault.{Fault}
use Rattle.rz_core.specs.declared.moment.Moment.{Moment}
use Rattle.rz_core.specs.declared.resource.Resource.{Resource}
use Rattle.rz_core.specs.declared.stop.Stop.{Stop}
use Rattle.rz_core.specs.declared.stop.Stop.TheVariants.{Refused, NoMemory}
use Rattle.rz_types_table.specs.Table.{Declaration}
use Rattle.rz_catalog_text.specs.declared.entry.Entry.{Entry}
use Rattle.rz_catalog.specs.Apply.{first_refused, Applied, IsAppliedTo}
use Rattle.rz_catalog.specs.Stock.{AreStocked, Stocked}

pub refused_applies : (X : Type 0) (types : List Declaration) (moment : Moment) (over : Bool) (list : List Resource) (entries : List Entry) (stock : List Stocked) → AreStocked types moment list stock
    → (stop : Stop Fault) → OnFault {X = X} (Err stop) (λ fault. first_refused over stock entries ≡ Some fault) → Meets {X = List Resource} (Err stop) (Applied types moment over list entries)
refused_applies X types moment over list entries stock are (Refused fault) is =
    record { stock = stock; stocked = are; is = subst (λ (o : Option Fault). IsAppliedTo types moment stock entries o (Err fault)) (sym is) refl }
refused_applies X types moment over list entries stock are NoMemory is = tt
