-- What entries leave of resources.
use Rattle.std.specs.Prelude.{[]}
use Rattle.rz_core.specs.declared.resource.Resource.{Resource}
use Rattle.rz_catalog.specs.Apply.{with_bytes}

-- all of a resource but its bytes: its type, its id, its name and its attributes
abbrev pub bare : Resource → Resource
bare r = with_bytes r []
