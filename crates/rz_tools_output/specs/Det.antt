-- What `det` means: a line for each rule that a fork breaks, and how many these are. (MPW RezDet.)
use Rattle.std.specs.Prelude.{◌≡◌, ℕ, List, [], get_or, Ok, Err, Option, Some, None}
use Rattle.std.specs.FinMap as finite
use Rattle.std.specs.String.{string_bytes}
use Rattle.std.specs.declared.result.Result.{Result}
use Rattle.rz_bridge_files.specs.Contents.{file_in}
use Rattle.rz_bridge_files.specs.declared.form.Form.{Form}
use Rattle.rz_core.specs.Stop.{◌>>=◌}
use Rattle.rz_core.specs.declared.fault.Fault.{Fault}
use Rattle.rz_told.specs.BreaksText.{breaks_text}
use Rattle.rz_folder.specs.Folder.{Files}
use Rattle.rz_folder.specs.Names.{missing_file}
use Rattle.rz_tools_answer.specs.Answer.{shown, Answer}
use Rattle.rz_tools_args.specs.Command.{places_of, Item}
use Rattle.rz_tools_args.specs.Items.{forms_of, last}
use Rattle.rz_tools_args.specs.declared.flag.Flag.TheVariants as flags
use Rattle.rz_tools_output.specs.Halted.{refused_alone}
use Rattle.rz_tools_output.specs.declared.det.DetWords.{DetWords}

-- What it asks for.

-- the file to read, and its form if that is given
pub record DetAsked : Type 0 where
  pub file : List ℕ
  pub from : Option Form

-- What items ask for. A command of `det` has one file, so that nothing is put in its place.
abbrev pub det_asked : List Item → DetAsked
det_asked items = record { file = get_or (places_of items) 0 []; from = last (forms_of flags.From items) }

-- What it tells.

-- the rules that the fork of a file in these bytes breaks, of whose data fork nothing is asked; or the rule of its form
-- that the file breaks
abbrev pub breaks_in : Option Form → List ℕ → Result (List ℕ) Fault
breaks_in from bytes = file_in None from bytes [] >>= λ file. Ok (breaks_text file.res_fork)

-- those of the file that its name holds; 101 where there is none
abbrev pub breaks_of : DetAsked → Option (List ℕ) → Result (List ℕ) Fault
breaks_of asked None = Err (missing_file None asked.file)
breaks_of asked (Some bytes) = breaks_in asked.from bytes

abbrev pub HasBreaks : DetAsked → Files → Result (List ℕ) Fault → Type 0
HasBreaks asked files answer = breaks_of asked (finite.get files asked.file) ≡ answer

-- the text is written to the output, however many rules are broken, or the fault ends the run
abbrev pub told : Result (List ℕ) Fault → Answer
told (Ok text) = shown (record { bytes = text; said = [] })
told (Err fault) = refused_alone fault

abbrev pub AnswersDet : DetAsked → Files → Answer → Type 0
AnswersDet asked files answer = answer ≡ told (breaks_of asked (finite.get files asked.file))

-- What the code holds.

abbrev pub det : DetWords → DetAsked
det words = record { file = string_bytes words.file; from = words.from }
