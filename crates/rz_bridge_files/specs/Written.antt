-- What is written of a file in a form.
use Rattle.std.specs.Prelude.{ℕ, List}
use Rattle.std.specs.declared.option.Option.TheVariants.{None}
use Rattle.std.specs.declared.result.Result.{Result}
use Rattle.rz_core.specs.declared.fault.Fault.{Fault}
use Rattle.rz_bridge.specs.declared.file.MacFile.{MacFile}
use Rattle.rz_bridge_files.specs.Forms.{written_of}
use Rattle.rz_bridge_files.specs.declared.form.Form.{Form}
use Rattle.rz_bridge_files.specs.Faults.{or_broken}

-- the one file of a form, or why it is refused; of AppleDouble the header file
abbrev pub written_as : Form → MacFile → Result (List ℕ) Fault
written_as form file = or_broken None (written_of form file)
