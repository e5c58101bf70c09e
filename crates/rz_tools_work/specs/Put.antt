-- A resource that is put into the list of resources, and the faults of the list. (MPW Rez.)
use Rattle.std.specs.Prelude.{Bool, List, Some, Ok, Err}
use Rattle.std.specs.declared.result.Result.{Result}
use Rattle.rz_core.specs.declared.fault.Fault.{Fault}
use Rattle.rz_core.specs.declared.fault.Kept.{Kept}
use Rattle.rz_core.specs.declared.fault.Kept.TheVariants.{Key, Nothing}
use Rattle.rz_core.specs.declared.fault.Mark.{Mark}
use Rattle.rz_core.specs.declared.resource.Resource.{Resource}
use Rattle.rz_set.specs.After.{after_put}
use Rattle.rz_set.specs.declared.pick.SetFault.{SetFault}
use Rattle.rz_set.specs.declared.pick.SetFault.TheVariants.{NoSuchResource, Protected}

-- 218 with what was looked for, and 219 with the type and id of the protected resource
abbrev pub set_fault : Mark → Kept → SetFault → Fault
set_fault mark sought (NoSuchResource kind) = record { number = 218; mark = Some mark; kept = sought }
set_fault mark sought (Protected kind id) = record { number = 219; mark = Some mark; kept = Key kind id }

-- a fault of the list, on this line
abbrev pub on_set : Mark → Kept → Result (List Resource) SetFault → Result (List Resource) Fault
on_set mark sought (Ok list) = Ok list
on_set mark sought (Err fault) = Err (set_fault mark sought fault)

-- the list with a resource in the place of the one with its type and id or at the end; unless that one is protected, and
-- protected ones aren't given up: 219
abbrev pub list_with : Mark → Bool → List Resource → Resource → Result (List Resource) Fault
list_with mark over list r = on_set mark Nothing (after_put over r list)
