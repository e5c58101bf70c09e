-- What a call of the list answers, on this line.
use Rattle.std.proofs.Common.{◌≡◌, List, Ok, Err, sym, ap, subst}
use Rattle.std.specs.declared.result.Result.{Result}
use Rattle.rz_core.specs.Stop.{left, Meets, fault_seen}
use Rattle.rz_core.specs.declared.fault.Fault.{Fault}
use Rattle.rz_core.specs.declared.fault.Kept.{Kept}
use Rattle.rz_core.specs.declared.fault.Mark.{Mark}
use Rattle.rz_core.specs.declared.resource.Resource.{Resource}
use Rattle.rz_core.specs.declared.stop.Stop.{Stop}
use Rattle.rz_core.specs.declared.stop.Stop.TheVariants.{NoMemory, Refused}
use Rattle.rz_set.specs.After.{Leaves}
use Rattle.rz_set.specs.declared.pick.SetFault.{SetFault}
use Rattle.rz_tools_work.specs.Put.{on_set, set_fault}

module _ (mark : Mark) (sought : Kept) (old new : List Resource) (answer : Result (List Resource) SetFault) where
  left_on_line : (after : Result (Unit {0}) (Stop SetFault)) → Leaves old answer after new → Meets (left new (fault_seen (set_fault mark sought) after)) (λ given. given ≡ on_set mark sought answer)
  left_on_line (Ok nothing) leaves = sym (ap (on_set mark sought) leaves)
  left_on_line (Err (Refused fault)) leaves = sym (ap (on_set mark sought) leaves.0)
  left_on_line (Err NoMemory) leaves = tt

  pub leaves_so : (after : Result (Unit {0}) (Stop SetFault)) (result : Result (Unit {0}) (Stop Fault)) → result ≡ fault_seen (set_fault mark sought) after → Leaves old answer after new
      → Meets (left new result) (λ given. given ≡ on_set mark sought answer)
  leaves_so after result is leaves =
      subst (λ (r : Result (Unit {0}) (Stop Fault)). Meets (left new r) (λ given. given ≡ on_set mark sought answer)) (sym is) (left_on_line after leaves)
