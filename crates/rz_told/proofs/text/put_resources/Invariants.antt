use Rattle.std.proofs.Common.{◌≡◌, List, ◌++◌, length, Ok}
use Rattle.std.specs.List.{flat_map}
use Rattle.rz_core.specs.declared.resource.Resource.{Resource}
use Rattle.rz_told.specs.Puts.{PutsText}
use Rattle.rz_told.specs.Text.{resource_line}
use Rattle.rz_told.proofs.text.put_resources.Given as goal

abbrev pub invariant-resources : goal.invariant-resources
invariant-resources g l = (front : List Resource) × (l.fork.list ≡ front ++ l.walk) × PutsText g.O.Sink l.fn.out l.out (flat_map resource_line front) (Ok tt)

abbrev pub decreases-resources : goal.decreases-resources
decreases-resources g l = length l.walk
