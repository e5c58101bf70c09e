use Rattle.std.proofs.Common.{◌≡◌, ◌<◌, ◌^◌, ℕ, List, length, None, Ok, inl, inr, refl, ap, subst, ◌∙◌}
use Rattle.std.specs.Prelude.{IsOkAnd}
use Rattle.std.specs.declared.result.Result.{Result}
use Rattle.rz_bridge.specs.declared.file.MacFile.{MacFile}
use Rattle.rz_bridge_files.specs.Contents.{file_in, form_or}
use Rattle.rz_bridge_files.specs.DataFile.{IsDataFile}
use Rattle.rz_bridge_files.specs.declared.form.Form.{Form}
use Rattle.rz_core.specs.declared.fault.Fault.{Fault}
use Rattle.rz_folder.proofs.Finding.{finds_as, finds_end, finds_stop, finds_then, finds_this, stops_so}
use Rattle.rz_folder.specs.Folder.{Files}
use Rattle.rz_folder.proofs.Present.{absent_stop, present_then, unplaced}
use Rattle.rz_tools_output.specs.Bridge.{bridge, BridgeAsked, HasBeside, IsRead}
use Rattle.rz_tools_output.proofs.Bridging.{held_so}
use Rattle.rz_tools_output.proofs.bridge.read_whole.Goals as goal

abbrev IsBeside : Form → List ℕ → Files → Result (List ℕ) Fault → Type 0
IsBeside form header files answer = IsOkAnd answer (HasBeside form header files)

abbrev IsIn : BridgeAsked → List ℕ → Files → List ℕ → Result MacFile Fault → Type 0
IsIn asked bytes files data_file answer = file_in None asked.from bytes data_file ≡ answer

abbrev IsShort : MacFile → Type 0
IsShort file = length file.res_fork < 2 ^ 32

pub read_present-requires : goal.read_present-requires
read_present-requires g c = c.requires c.as_str-name.result.now (inl c.as_str-name.ensures.value)

pub read_beside-requires : goal.read_beside-requires
read_beside-requires g c = λ name is.
    c.in_ok-bytes.ensures.reads.allowed name (c.requires name (inr (subst (λ (header : List ℕ). IsDataFile header name) c.as_str-name.ensures.value is)))

pub returns-in_err-bytes : goal.returns-in_err-bytes
returns-in_err-bytes g c =
    let asked = bridge c.args.words.now in
    absent_stop g.F.Folder asked.file (IsRead asked) c.from_residual.result c.from_residual.ensures.1 (λ files. refl) (λ fault is. is)
    (rw c.as_str-name.ensures.value at c.in_err-bytes.ensures)

pub returns-in_err-data_file : goal.returns-in_err-data_file
returns-in_err-data_file g c =
    let asked = bridge c.args.words.now in
    let bytes = c.in_ok-bytes.bytes in
    let form = c.form_or-form.result in
    let header = c.as_str-name.result.now in
    let result = c.from_residual-in_err-data_file.result in
    present_then g.F.Folder asked.file (IsRead asked) (rw c.as_str-name.ensures.value at c.in_ok-bytes.ensures)
    (finds_as g.F.Folder result
    (finds_stop g.F.Folder (IsBeside form header) (IsIn asked bytes) {Good = IsShort} result c.from_residual-in_err-data_file.ensures.1 c.in_err-data_file.ensures)
    (held_so asked bytes form (c.form_or-form.ensures ∙ ap (form_or asked.from) c.as_slice.ensures) header c.as_str-name.ensures.value))

pub returns-in_err-file_in : goal.returns-in_err-file_in
returns-in_err-file_in g c =
    let asked = bridge c.args.words.now in
    let bytes = c.in_ok-bytes.bytes in
    let form = c.form_or-form.result in
    let header = c.as_str-name.result.now in
    let result = c.from_residual-in_err-file_in.result in
    present_then g.F.Folder asked.file (IsRead asked) (rw c.as_str-name.ensures.value at c.in_ok-bytes.ensures)
    (finds_as g.F.Folder result
    (finds_then g.F.Folder (IsBeside form header) (IsIn asked bytes) c.in_ok-data_file.ensures
    (finds_end g.F.Folder result c.from_residual-in_err-file_in.ensures.1
    (stops_so g.F.Folder (file_in None asked.from bytes c.in_ok-data_file.data_file) {Good = IsShort} c.in_err-file_in.field-0.0 c.in_err-file_in.ensures.file
    (unplaced MacFile MacFile c.in_err-file_in.field-0.0 (λ files. c.in_err-file_in.ensures.nameable files tt)))))
    (held_so asked bytes form (c.form_or-form.ensures ∙ ap (form_or asked.from) c.as_slice.ensures) header c.as_str-name.ensures.value))

pub returns : goal.returns
returns g c =
    let asked = bridge c.args.words.now in
    let bytes = c.in_ok-bytes.bytes in
    let form = c.form_or-form.result in
    let header = c.as_str-name.result.now in
    present_then g.F.Folder asked.file (IsRead asked) (rw c.as_str-name.ensures.value at c.in_ok-bytes.ensures)
    (finds_as g.F.Folder (Ok c.in_ok-file_in.field-0)
    (finds_then g.F.Folder (IsBeside form header) (IsIn asked bytes) c.in_ok-data_file.ensures
    (finds_this g.F.Folder (file_in None asked.from bytes c.in_ok-data_file.data_file) {Good = IsShort} c.in_ok-file_in.field-0 c.in_ok-file_in.ensures.file c.in_ok-file_in.ensures.res_fork.1))
    (held_so asked bytes form (c.form_or-form.ensures ∙ ap (form_or asked.from) c.as_slice.ensures) header c.as_str-name.ensures.value))
