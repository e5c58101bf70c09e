-- The answer where the entries of a list's own catalogue are applied to it.
use Rattle.std.specs.Prelude.{Bool, true, false, List, Option, Some, None, option_map}
use Rattle.std.specs.declared.result.Result.{Result}
use Rattle.rz_core.specs.Lists.{unless_fault}
use Rattle.rz_core.specs.Resources.{is_protected}
use Rattle.rz_core.specs.declared.fault.Fault.{Fault}
use Rattle.rz_core.specs.declared.resource.Resource.{Resource}
use Rattle.rz_catalog_text.specs.declared.entry.Entry.{Entry}
use Rattle.rz_catalog.specs.Apply.{fault_of, first_such, is_entry_for}

-- there is a resource, and it is protected
abbrev pub finds_protected : Option Resource → Bool
finds_protected None = false
finds_protected (Some r) = is_protected r

-- the first entry of a protected resource, which is refused where these may not be changed
abbrev pub protected_fault : (over : Bool) → List Resource → List Entry → Option Fault
protected_fault true list entries = None
protected_fault false list entries = option_map (fault_of 219) (first_such (λ e. finds_protected (first_such (λ r. is_entry_for r e) list)) entries)

-- that refusal, or else the list
abbrev pub own_answer : (over : Bool) → List Resource → List Entry → Result (List Resource) Fault
own_answer over list entries = unless_fault (protected_fault over list entries) list
