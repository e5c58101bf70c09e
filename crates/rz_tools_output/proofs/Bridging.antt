-- What `bridge` reads and writes, from what its calls gave.
use Rattle.std.proofs.Common.{◌≡◌, ◌≢◌, inl, inr, ℕ, List, [], ◌∷◌, ◌++◌, map, Option, Some, None, Ok, Err, refl, sym, ap, subst, ◌∙◌}
use Rattle.std.specs.Prelude.{IfOk, IfSome, IsOkAnd}
use Rattle.std.specs.FinMap as finite
use Rattle.std.specs.String.{string_bytes}
use Rattle.std.specs.declared.result.Result.{Result}
use Rattle.rz_bridge.specs.declared.file.MacFile.{MacFile}
use Rattle.rz_bridge_files.specs.Contents.{file_in, form_or}
use Rattle.rz_bridge_files.specs.Names.{Named}
use Rattle.rz_bridge_files.specs.Written.{written_as}
use Rattle.rz_bridge_files.specs.DataFile.{IsDataFile}
use Rattle.rz_bridge_files.specs.declared.form.Form.{Form}
use Rattle.rz_bridge_files.specs.declared.form.Form.TheVariants as forms
use Rattle.rz_core.proofs.Once.{same_err}
use Rattle.rz_core.specs.Answers.{Then}
use Rattle.rz_core.specs.Stop.{IsReadFault, Yields}
use Rattle.rz_core.specs.declared.fault.Fault.{Fault}
use Rattle.rz_core.specs.declared.stop.Halt.{Halt}
use Rattle.rz_core.specs.declared.stop.Halt.TheVariants as halts
use Rattle.rz_folder.proofs.Reading.{reads_as}
use Rattle.rz_folder.specs.Finds.{Finds}
use Rattle.rz_folder.specs.Folder.{Files}
use Rattle.rz_folder.specs.declared.folder.Folder.{Ghosts}
use Rattle.rz_tools_answer.proofs.Warnings.{no_lines}
use Rattle.rz_tools_answer.specs.Answer.{refused, shown, Answer, Write}
use Rattle.rz_tools_answer.specs.Made.{IsBeside}
use Rattle.rz_tools_answer.specs.Plan.{answer_of, write_of, EndsIn, IsNoUsage}
use Rattle.rz_tools_answer.specs.Plans.{Concludes, Plans}
use Rattle.rz_tools_answer.specs.WellFormed.{AreWritable, IsWellFormed}
use Rattle.rz_tools_answer.specs.declared.made.Failing.{Failing}
use Rattle.rz_tools_answer.specs.declared.plan.Plan.{Plan}
use Rattle.rz_tools_answer.specs.declared.plan.Write as code
use Rattle.rz_tools_output.proofs.Begins.{not_refused, or_none}
use Rattle.rz_tools_output.specs.Base.{HasOrNone}
use Rattle.rz_tools_output.specs.Bridge.{bridged, AnswersBridge, AreWrites, BridgeAsked, Bridges, HasBeside, IsHeld, IsWrittenAs}
use Rattle.rz_tools_output.specs.Bridge.AreWrites.{two}

-- What is read.

-- no other form has a data file
pub none_beside : (form : Form) → form ≢ forms.AppleDouble → (header data_file : List ℕ) → data_file ≡ [] → (before : Option Files) → IfSome before (λ files. HasBeside form header files data_file)
none_beside form other header data_file none None = tt
none_beside forms.AppleDouble other header data_file none (Some files) = absurd (other refl)
none_beside forms.Raw other header data_file none (Some files) = none
none_beside forms.AppleSingle other header data_file none (Some files) = none
none_beside forms.MacBinary other header data_file none (Some files) = none
none_beside forms.BinHex other header data_file none (Some files) = none

pub one_beside : (form : Form) → form ≡ forms.AppleDouble → (header name : List ℕ) → IsDataFile header name → (files : Files) (answer : Result (List ℕ) Fault) → HasOrNone (finite.get files name) answer
    → IsOkAnd answer (HasBeside form header files)
one_beside form double header name named files (Ok bytes) is =
    subst (λ (f : Form). HasBeside f header files bytes) (sym double) (name, named, sym (or_none (finite.get files name) bytes is))
one_beside form double header name named files (Err fault) is = absurd (not_refused (finite.get files name) fault is)

-- what bytes hold, beside a data file
module _ (asked : BridgeAsked) (bytes : List ℕ) (form : Form) (is_form : form ≡ form_or asked.from bytes) (header : List ℕ) (same : header ≡ asked.file) where
  pub held_so : (files : Files) (answer : Result MacFile Fault)
      → Then (λ given. IsOkAnd given (HasBeside form header files)) (λ data_file given. file_in None asked.from bytes data_file ≡ given) answer → IsHeld asked files bytes answer
  held_so files answer (inl (data_file, has, is)) = (
    data_file,
    subst (λ (f : Form). HasBeside f asked.file files data_file) is_form (subst (λ (h : List ℕ). HasBeside form h files data_file) same has),
    sym is,
  )
  held_so files answer (inr (fault, never, is)) = absurd never

-- What is written.

pub named_writes : (asked : BridgeAsked) (file named : MacFile) → Named asked.to asked.output file (Ok named) → (bytes : List ℕ) → written_as asked.to named ≡ Ok bytes
    → (writes : List Write) → AreWrites asked named bytes writes → Then (Named asked.to asked.output file) (IsWrittenAs asked) (Ok writes)
named_writes asked file named is_named bytes is writes are = inl (named, is_named, inl (bytes, sym is, (writes, are, refl)))

-- a raw file is the resource fork
pub raw_writes : (asked : BridgeAsked) (file named : MacFile) → Named asked.to asked.output file (Ok named) → asked.to ≡ forms.Raw
    → (writes : List Write) → AreWrites asked named named.res_fork writes → Then (Named asked.to asked.output file) (IsWrittenAs asked) (Ok writes)
raw_writes asked file named is_named raw writes are =
    named_writes asked file named is_named named.res_fork (ap (λ (form : Form). written_as form named) raw) writes are

pub two_writes : (asked : BridgeAsked) (file : MacFile) (data_file header : code.Write) (none first writes : List code.Write)
    → none ≡ [] → first ≡ none ++ data_file ∷ [] → writes ≡ first ++ header ∷ []
    → asked.to ≡ forms.AppleDouble → file.data_fork ≢ [] → IsDataFile asked.output (string_bytes data_file.name) → data_file.bytes ≡ file.data_fork
    → string_bytes header.name ≡ asked.output → AreWrites asked file header.bytes (map write_of writes)
two_writes asked file data_file header none first writes empty is_first is double some is_data held named =
    two (string_bytes data_file.name) double some is_data
    (ap (map write_of) (is ∙ ap (λ (f : List code.Write). f ++ header ∷ []) (is_first ∙ ap (λ (n : List code.Write). n ++ data_file ∷ []) empty))
    ∙ ap (λ (n : List ℕ). record { name = string_bytes data_file.name; bytes = data_file.bytes } ∷ record { name = n; bytes = header.bytes } ∷ []) named
    ∙ ap (λ (b : List ℕ). record { name = string_bytes data_file.name; bytes = b } ∷ record { name = asked.output; bytes = header.bytes } ∷ []) held)

-- The answer.

failed_too : (halt : Halt Fault) → IsReadFault {X = List ℕ} (Err halt) → IsReadFault {X = List Write} (Err halt)
failed_too (halts.Refused fault) failed = absurd failed
failed_too halts.ReadFault failed = tt
failed_too halts.NoMemory failed = absurd failed

-- a refusal before which nothing is said
refused_so : (asked : BridgeAsked) (files : Files) (halt : Halt Fault) (stop : Halt Failing) → IsBeside [] [] (Err halt) (Err stop) → Yields {X = List Write} (Err halt) (Bridges asked files) → (answer : Answer) → EndsIn stop answer
    → AnswersBridge asked files answer
refused_so asked files (halts.Refused fault) (halts.Refused failing) beside makes answer ends =
    (Err fault, makes, ends ∙ ap refused (same_err failing (record { fault = fault; files = []; said = [] }) beside.said))
refused_so asked files halts.ReadFault (halts.Refused failing) beside makes answer ends = absurd (cc beside.said)
refused_so asked files halts.NoMemory (halts.Refused failing) beside makes answer ends = absurd (cc beside.said)
refused_so asked files halt halts.ReadFault beside makes answer ends = absurd ends
refused_so asked files halt halts.NoMemory beside makes answer ends = absurd ends

module _ {F E : Type 0} (g : Ghosts F) (asked : BridgeAsked) where
  pub plans_writes : {Bad : Fault → Type 0} {old new : F} (writes : List Write) → Finds g old new (Ok writes) (Bridges asked) AreWritable Bad → (plan : Plan) → answer_of plan ≡ bridged (Ok writes)
      → Plans {E = E} g old new (Ok plan) (AnswersBridge asked)
  plans_writes {old = old} writes finds plan is = record {
    answered = by (g.files old) finds.answered;
    well_formed = subst IsWellFormed (sym is) no_lines;
    writable = subst (λ (a : Answer). AreWritable a.writes) (sym is) finds.good;
    no_usage = subst (λ (a : Answer). IsNoUsage a.outcome) (sym is) tt;
    reads = finds.reads;
  }
    where
      by : (before : Option Files) → IfSome before (λ files. Bridges asked files (Ok writes)) → IfSome before (λ files. AnswersBridge asked files (answer_of plan))
      by None makes = tt
      by (Some files) makes = (Ok writes, makes, is)

  pub plans_refusal : {Good : List Write → Type 0} {Bad : Fault → Type 0} {old new : F} {halt : Halt Fault} {stop : Halt Failing} → Finds g old new (Err halt) (Bridges asked) Good Bad
      → IsBeside [] [] (Err halt) (Err stop) → (result : Result Plan (Halt E)) → IfOk result (λ plan. EndsIn stop (answer_of plan)) → Concludes shown (Err stop) result
      → Plans g old new result (AnswersBridge asked)
  plans_refusal {old = old} {new = new} {halt = halt} {stop = stop} finds beside result ends concludes = record {
    answered = by (g.files old) result ends finds.answered;
    well_formed = concludes.well_formed;
    writable = concludes.writable;
    no_usage = concludes.no_usage;
    reads = reads_as g old new (λ failed. failed_too halt (beside.read_fault (concludes.read_fault failed))) finds.reads;
  }
    where
      by : (before : Option Files) (result : Result Plan (Halt E)) → IfOk result (λ plan. EndsIn stop (answer_of plan)) → IfSome before (λ files. Yields {X = List Write} (Err halt) (Bridges asked files))
          → IfSome before (λ files. IfOk result (λ plan. AnswersBridge asked files (answer_of plan)))
      by None result ends makes = tt
      by (Some files) (Ok plan) ends makes = refused_so asked files halt stop beside makes (answer_of plan) ends
      by (Some files) (Err end) ends makes = tt
