-- What the bytes of a file hold: a file of the Macintosh, and its resource fork.
use Rattle.std.specs.Prelude.{ℕ, ◌<◌, ◌^◌, List, [], length}
use Rattle.std.specs.List.{AllByRecursion}
use Rattle.std.specs.declared.option.Option.{Option}
use Rattle.std.specs.declared.option.Option.TheVariants.{Some, None}
use Rattle.std.specs.declared.result.Result.{Result}
use Rattle.rz_core.specs.Stop.{◌>>=◌}
use Rattle.rz_core.specs.declared.fault.Fault.{Fault}
use Rattle.rz_core.specs.declared.fault.Mark.{Mark}
use Rattle.rz_bridge.specs.declared.file.MacFile.{MacFile}
use Rattle.rz_bridge_files.specs.Forms.{content_of, form_of}
use Rattle.rz_bridge_files.specs.declared.form.Form.{Form}
use Rattle.rz_fork.specs.Admit.{admitted}
use Rattle.rz_fork.specs.Contents.{Fork}
use Rattle.rz_bridge_files.specs.Faults.{or_broken, or_torn}

-- the form that is given, else the one that the bytes have
abbrev pub form_or : Option Form → List ℕ → Form
form_or (Some form) bytes = form
form_or None bytes = form_of bytes

-- the file in these bytes, beside a data file that AppleDouble alone has, or the rule of its form that it breaks
abbrev pub file_in : Option Mark → Option Form → List ℕ → List ℕ → Result MacFile Fault
file_in mark form bytes data_file = or_broken mark (content_of (form_or form bytes) bytes data_file)

-- the fork of these bytes, or the first rule that it breaks
abbrev pub admit_fork : Option Mark → List ℕ → Result Fork Fault
admit_fork mark bytes = or_torn mark (admitted bytes)

-- the fork of the file in these bytes, of whose data fork nothing is asked
abbrev pub fork_in : Option Mark → Option Form → List ℕ → Result Fork Fault
fork_in mark form bytes = file_in mark form bytes [] >>= λ file. admit_fork mark file.res_fork

-- Calls.

-- bytes that a file can hold
abbrev pub IsFile : List ℕ → Type 0
IsFile bytes = AllByRecursion (λ b. b < 256) bytes × (length bytes < 2 ^ 32)
