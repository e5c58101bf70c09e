-- What `bridge` means: what a file holds in one form, written in another. (RFC 1740; RFC 1741.)
use Rattle.std.specs.Prelude.{◌≡◌, ◌≢◌, ◌⊎◌, ℕ, List, [], ◌∷◌, get_or, map, Ok, Err, Option, Some, None, unwrap_or}
use Rattle.std.specs.FinMap as finite
use Rattle.std.specs.String.{string_bytes}
use Rattle.std.specs.declared.result.Result.{Result}
use Rattle.rz_tools_answer.specs.Answer.{Answer, Write}
use Rattle.rz_tools_answer.specs.Plan.{write_of}
use Rattle.rz_tools_answer.specs.declared.outcome.Outcome.TheVariants.{Done}
use Rattle.rz_tools_answer.specs.declared.plan.Write as code
use Rattle.rz_bridge.specs.declared.file.MacFile.{MacFile}
use Rattle.rz_core.specs.Answers.{Then}
use Rattle.rz_core.specs.Stop.{seen}
use Rattle.rz_core.specs.declared.fault.Fault.{Fault}
use Rattle.rz_bridge_files.specs.Contents.{file_in, form_or}
use Rattle.rz_bridge_files.specs.Names.{Named}
use Rattle.rz_folder.specs.Folder.{Files}
use Rattle.rz_bridge_files.specs.DataFile.{IsDataFile}
use Rattle.rz_bridge_files.specs.Written.{written_as}
use Rattle.rz_bridge_files.specs.declared.form.Form.{Form}
use Rattle.rz_bridge_files.specs.declared.form.Form.TheVariants as forms
use Rattle.rz_folder.specs.Names.{missing_file}
use Rattle.rz_tools_output.specs.Base.{or_empty}
use Rattle.rz_tools_output.specs.Halted.{refused_alone}
use Rattle.rz_tools_args.specs.Command.{places_of, IsCommand, Item}
use Rattle.rz_tools_args.specs.Items.{forms_of, last, names_of}
use Rattle.rz_tools_args.specs.declared.flag.Flag.TheVariants as flags
use Rattle.rz_tools_args.specs.declared.name.CommandName.TheVariants as names
use Rattle.rz_tools_output.specs.declared.bridge.BridgeWords.{BridgeWords}

-- What it asks for.

-- the file to read, the file to write, its form, and the form of the file to read if that is given
pub record BridgeAsked : Type 0 where
  pub file : List ℕ
  pub output : List ℕ
  pub to : Form
  pub from : Option Form

-- What items ask for. A command of `bridge` has one file, a file to write and a form of it, so that nothing is put in
-- their place.
abbrev pub bridge_asked : List Item → BridgeAsked
bridge_asked items = record {
  file = get_or (places_of items) 0 [];
  output = unwrap_or (last (names_of flags.Output items)) [];
  to = unwrap_or (last (forms_of flags.Into items)) forms.Raw;
  from = last (forms_of flags.From items);
}

-- the words are a command of `bridge` that asks for this
abbrev pub IsBridge : List (List ℕ) → BridgeAsked → Type 0
IsBridge words asked =
    (items : List Item) × IsCommand words (record { name = names.Bridge; items = items }) × (asked ≡ bridge_asked items)

-- What it reads.

-- the data file beside a header file of AppleDouble, which no other form has; it is empty where no file has its name
abbrev pub HasBeside : Form → List ℕ → Files → List ℕ → Type 0
HasBeside forms.AppleDouble header files data_file = (name : List ℕ) × IsDataFile header name × (data_file ≡ or_empty (finite.get files name))
HasBeside form header files data_file = data_file ≡ []

-- what bytes hold, in the form that the words give or that they have, beside the file's data file
abbrev pub IsHeld : BridgeAsked → Files → List ℕ → Result MacFile Fault → Type 0
IsHeld asked files bytes answer =
    (data_file : List ℕ) × HasBeside (form_or asked.from bytes) asked.file files data_file × (answer ≡ file_in None asked.from bytes data_file)

-- what the file holds; 101 where there is none
abbrev pub IsRead : BridgeAsked → Files → Option (List ℕ) → Result MacFile Fault → Type 0
IsRead asked files None answer = answer ≡ Err (missing_file None asked.file)
IsRead asked files (Some bytes) answer = IsHeld asked files bytes answer

-- which files it may read: the file, and the data file beside it
abbrev pub BridgeAsks : BridgeAsked → List ℕ → Type 0
BridgeAsks asked name = (name ≡ asked.file) ⊎ IsDataFile asked.file name

-- What it writes.

-- The files that are written of a file and of the bytes of its form: of AppleDouble first the data file, where the data
-- fork isn't empty.
pub data AreWrites (asked : BridgeAsked) (file : MacFile) (bytes : List ℕ) (writes : List Write) : Type 0 where
  one : (asked.to ≢ forms.AppleDouble) ⊎ (file.data_fork ≡ []) → writes ≡ record { name = asked.output; bytes = bytes } ∷ []
      → AreWrites asked file bytes writes
  two : (data_file : List ℕ) → asked.to ≡ forms.AppleDouble → file.data_fork ≢ [] → IsDataFile asked.output data_file
      → writes ≡ record { name = data_file; bytes = file.data_fork } ∷ record { name = asked.output; bytes = bytes } ∷ []
      → AreWrites asked file bytes writes

-- the writes of a file in the form that is asked for, or the rule of this form that it breaks (425, 428)
abbrev pub IsWrittenAs : BridgeAsked → MacFile → Result (List Write) Fault → Type 0
IsWrittenAs asked file =
    Then (λ bytes. bytes ≡ written_as asked.to file) (λ bytes answer. (writes : List Write) × AreWrites asked file bytes writes × (answer ≡ Ok writes))

-- first the file is read (101, the rules of its form), then it is named (425), then written
abbrev pub Bridges : BridgeAsked → Files → Result (List Write) Fault → Type 0
Bridges asked files =
    Then (IsRead asked files (finite.get files asked.file)) (λ file. Then (Named asked.to asked.output file) (IsWrittenAs asked))

-- the files are written, or the fault ends the run
abbrev pub bridged : Result (List Write) Fault → Answer
bridged (Ok writes) = record { outcome = Done; writes = writes; out = []; err = [] }
bridged (Err fault) = refused_alone fault

abbrev pub AnswersBridge : BridgeAsked → Files → Answer → Type 0
AnswersBridge asked files answer = (made : Result (List Write) Fault) × Bridges asked files made × (answer ≡ bridged made)

-- What the code holds.

abbrev pub bridge : BridgeWords → BridgeAsked
bridge words = record { file = string_bytes words.file; output = words.output.now; to = words.to; from = words.from }

-- what the code is to write, or what stopped it
abbrev pub writes_of : {E : Type 0} → Result (List code.Write) E → Result (List Write) E
writes_of result = seen (map write_of) result
