-- What `list` means: the facts of a file and the resources of its fork, a line for each. It is asked for the same as
-- `det`.
use Rattle.std.specs.Prelude.{◌≡◌, ℕ, List, [], Ok, Err, Option, Some, None}
use Rattle.std.specs.FinMap as finite
use Rattle.std.specs.declared.result.Result.{Result}
use Rattle.rz_bridge_files.specs.Contents.{admit_fork, file_in, form_or}
use Rattle.rz_bridge_files.specs.declared.form.Form.{Form}
use Rattle.rz_core.specs.Stop.{◌>>=◌}
use Rattle.rz_core.specs.declared.fault.Fault.{Fault}
use Rattle.rz_folder.specs.Folder.{Files}
use Rattle.rz_folder.specs.Names.{missing_file}
use Rattle.rz_told.specs.Text.{file_text}
use Rattle.rz_tools_answer.specs.Answer.{Answer}
use Rattle.rz_tools_output.specs.Det.{told, DetAsked}

-- the text of the file in these bytes, of whose data file nothing is asked; or the first rule of its form that the file
-- breaks, and then the first rule that its fork breaks
abbrev pub listed_in : Option Form → List ℕ → Result (List ℕ) Fault
listed_in from bytes =
    file_in None from bytes [] >>= λ file. admit_fork None file.res_fork >>= λ fork. Ok (file_text (form_or from bytes) file fork.list)

-- that of the file that its name holds; 101 where there is none
abbrev pub listed_of : DetAsked → Option (List ℕ) → Result (List ℕ) Fault
listed_of asked None = Err (missing_file None asked.file)
listed_of asked (Some bytes) = listed_in asked.from bytes

abbrev pub HasList : DetAsked → Files → Result (List ℕ) Fault → Type 0
HasList asked files answer = listed_of asked (finite.get files asked.file) ≡ answer

-- the text is written to the output, or the fault ends the run
abbrev pub AnswersList : DetAsked → Files → Answer → Type 0
AnswersList asked files answer = answer ≡ told (listed_of asked (finite.get files asked.file))
