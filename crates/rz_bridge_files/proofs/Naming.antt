-- The name of a file, from what the calls gave.
use Rattle.std.proofs.Common.{◌≡◌, ◌≢◌, ℕ, List, [], Err, refl, inr}
use Rattle.rz_core.specs.Stop.{Meets}
use Rattle.rz_core.specs.declared.fault.Fault.{Fault}
use Rattle.rz_core.specs.declared.stop.Stop.{Stop}
use Rattle.rz_core.specs.declared.stop.Stop.TheVariants.{NoMemory, Refused}
use Rattle.rz_bridge.specs.declared.file.MacFile.{MacFile}
use Rattle.rz_bridge_files.specs.declared.form.Form.{Form}
use Rattle.rz_bridge_files.specs.declared.form.Form.TheVariants.{Raw}
use Rattle.rz_bridge_files.specs.Names.{Named, TakesName}
use Rattle.rz_bridge_files.specs.Names.Named.{taken}

-- a file that takes no name
pub named_stopped : (form : Form) (path : List ℕ) (file : MacFile) → form ≢ Raw → file.name ≡ [] → (stop : Stop Fault)
    → Meets {X = List ℕ} (Err stop) (TakesName path) → Meets {X = MacFile} (Err stop) (Named form path file)
named_stopped form path file not_raw empty (Refused fault) takes = taken not_raw empty (inr (fault, takes, refl))
named_stopped form path file not_raw empty NoMemory takes = tt
