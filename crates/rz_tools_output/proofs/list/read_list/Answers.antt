use Rattle.std.proofs.Common.{ℕ, List, Option, refl, sym, subst}
use Rattle.std.specs.declared.result.Result.{Result}
use Rattle.std.specs.Prelude.{◌≡◌}
use Rattle.rz_core.specs.Stop.{seen}
use Rattle.rz_core.specs.declared.fault.Fault.{Fault}
use Rattle.rz_folder.proofs.Finding.{finds_end, finds_this, seen_end, stops_so}
use Rattle.rz_folder.specs.Folder.{Files}
use Rattle.rz_folder.proofs.Present.{absent_stop, present_then, unplaced}
use Rattle.rz_told.specs.Held.{text_of}
use Rattle.rz_told.specs.declared.text.FileText.{FileText}
use Rattle.rz_tools_output.specs.Det.{det, DetAsked}
use Rattle.rz_tools_output.specs.List.{listed_in, listed_of}
use Rattle.rz_tools_output.proofs.list.read_list.Goals as goal

abbrev Lists : DetAsked → Files → Option (List ℕ) → Result (List ℕ) Fault → Type 0
Lists asked files entry answer = listed_of asked entry ≡ answer

pub read_present-requires : goal.read_present-requires
read_present-requires g c = subst (λ (name : List ℕ). g.F.Folder.may_read c.args.folder.now name) (sym c.as_str.ensures.value) (c.requires)

pub returns-in_err-bytes-clause-text : goal.returns-in_err-bytes-clause-text
returns-in_err-bytes-clause-text g c =
    let asked = det c.args.words.now in
    absent_stop g.F.Folder asked.file (Lists asked) (seen text_of c.from_residual.result) (seen_end text_of c.from_residual.result _ c.from_residual.ensures.1)
    (λ files. refl) (λ fault is. is) (rw c.as_str.ensures.value at c.in_err-bytes.ensures)

pub returns-in_err-text_in-clause-text : goal.returns-in_err-text_in-clause-text
returns-in_err-text_in-clause-text g c =
    let asked = det c.args.words.now in
    let result = c.from_residual-in_err-text_in.result in
    present_then g.F.Folder asked.file (Lists asked) (rw c.as_str.ensures.value at c.in_ok-bytes.ensures)
    (finds_end g.F.Folder (seen text_of result) (seen_end text_of result _ c.from_residual-in_err-text_in.ensures.1)
    (stops_so g.F.Folder (listed_in asked.from c.in_ok-bytes.bytes) {Good = λ text. Unit {0}} c.in_err-text_in.field-0.0 c.in_err-text_in.ensures.text
    (unplaced FileText (List ℕ) c.in_err-text_in.field-0.0 c.in_err-text_in.ensures.nameable)))

pub returns-clause-text : goal.returns-clause-text
returns-clause-text g c =
    let asked = det c.args.words.now in
    present_then g.F.Folder asked.file (Lists asked) (rw c.as_str.ensures.value at c.in_ok-bytes.ensures)
    (finds_this g.F.Folder (listed_in asked.from c.in_ok-bytes.bytes) {Good = λ text. Unit {0}} (text_of c.in_ok-text_in.field-0) c.in_ok-text_in.ensures.text tt)
