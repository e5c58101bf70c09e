-- What bytes tell under the bytes of a 'TMPL' resource.
use Rattle.std.specs.Prelude.{◌≡◌, ℕ, true, List, Option, Ok, Err}
use Rattle.std.specs.declared.result.Result.{Result}
use Rattle.rz_core.specs.Decided.{Decided}
use Rattle.rz_tmpl.specs.Closed.{is_closed}
use Rattle.rz_tmpl.specs.Cut.{IsCut}
use Rattle.rz_tmpl.specs.Items.{Items}
use Rattle.rz_tmpl.specs.declared.fault.TmplFault.{TmplFault}
use Rattle.rz_tmpl_laws.specs.Says.{Says}
use Rattle.rz_types_fields.specs.declared.tree.Tree.{Tree}

-- the entries are closed, and the bytes say the row
abbrev pub IsSaid : Items → List ℕ → List Tree → Type 0
IsSaid items bytes row = (is_closed items ≡ true) × Says items row bytes

-- the fault of the entries, or else the row that is said, or that there is none
abbrev pub Tells : List ℕ → Result Items TmplFault → Result (Option (List Tree)) TmplFault → Type 0
Tells bytes (Err fault) answer = answer ≡ Err fault
Tells bytes (Ok items) answer = (found : Option (List Tree)) × (answer ≡ Ok found) × Decided (IsSaid items bytes) found

-- what bytes tell under those of a 'TMPL' resource
abbrev pub AreRead : (tmpl bytes : List ℕ) → Result (Option (List Tree)) TmplFault → Type 0
AreRead tmpl bytes answer = (cut : Result Items TmplFault) × IsCut tmpl cut × Tells bytes cut answer
