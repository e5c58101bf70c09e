use Rattle.std.proofs.Common.{ℕ, List, [], Option, None, Ok, Err, refl, sym, ap, subst, ◌∙◌}
use Rattle.std.specs.declared.result.Result.{Result}
use Rattle.std.specs.Prelude.{◌≡◌}
use Rattle.rz_bridge.specs.declared.file.MacFile.{MacFile}
use Rattle.rz_bridge_files.specs.Contents.{file_in}
use Rattle.rz_core.specs.Stop.{Gives}
use Rattle.rz_core.specs.declared.fault.Fault.{Fault}
use Rattle.rz_told.specs.BreaksText.{breaks_text}
use Rattle.rz_folder.proofs.Finding.{binds, finds_as, finds_none, finds_stop, finds_then, finds_this, stops_so}
use Rattle.rz_folder.specs.Folder.{Files}
use Rattle.rz_folder.proofs.Present.{absent_stop, present_then, unplaced}
use Rattle.rz_tools_output.specs.Det.{breaks_of, det, DetAsked}
use Rattle.rz_tools_output.proofs.det.read_breaks.Goals as goal

abbrev Breaks : DetAsked → Files → Option (List ℕ) → Result (List ℕ) Fault → Type 0
Breaks asked files entry answer = breaks_of asked entry ≡ answer

-- the file in the bytes, and the text of its fork
abbrev IsIn : DetAsked → List ℕ → Files → Result MacFile Fault → Type 0
IsIn asked bytes files answer = file_in None asked.from bytes [] ≡ answer

abbrev IsText : Files → MacFile → Result (List ℕ) Fault → Type 0
IsText files file answer = Ok (breaks_text file.res_fork) ≡ answer

pub read_present-requires : goal.read_present-requires
read_present-requires g c = subst (λ (name : List ℕ). g.F.Folder.may_read c.args.folder.now name) (sym c.as_str.ensures.value) (c.requires)

pub returns-in_err-bytes : goal.returns-in_err-bytes
returns-in_err-bytes g c =
    let asked = det c.args.words.now in
    absent_stop g.F.Folder asked.file (Breaks asked) c.from_residual.result c.from_residual.ensures.1 (λ files. refl) (λ fault is. is)
    (rw c.as_str.ensures.value at c.in_err-bytes.ensures)

pub returns-in_err-file : goal.returns-in_err-file
returns-in_err-file g c =
    let asked = det c.args.words.now in
    let result = c.from_residual-in_err-file.result in
    present_then g.F.Folder asked.file (Breaks asked) (rw c.as_str.ensures.value at c.in_ok-bytes.ensures)
    (finds_as g.F.Folder result
    (finds_stop g.F.Folder (IsIn asked c.in_ok-bytes.bytes) IsText {GoodX = λ file. Unit {0}} result c.from_residual-in_err-file.ensures.1
    (stops_so g.F.Folder (file_in None asked.from c.in_ok-bytes.bytes []) c.in_err-file.field-0.0 (subst (λ (d : List ℕ). Gives {X = MacFile} (file_in None asked.from c.in_ok-bytes.bytes d) (Err c.in_err-file.field-0.0)) c.new.ensures c.in_err-file.ensures.file)
    (unplaced MacFile MacFile c.in_err-file.field-0.0 (λ files. c.in_err-file.ensures.nameable files tt))))
    (λ files answer is. binds (file_in None asked.from c.in_ok-bytes.bytes []) (λ file. Ok (breaks_text file.res_fork)) answer is))

pub returns-in_err-breaks_text : goal.returns-in_err-breaks_text
returns-in_err-breaks_text g c =
    let asked = det c.args.words.now in
    present_then g.F.Folder asked.file (Breaks asked) (rw c.as_str.ensures.value at c.in_ok-bytes.ensures)
    (finds_none g.F.Folder c.from_residual-in_err-breaks_text.result c.from_residual-in_err-breaks_text.ensures.1)

pub returns : goal.returns
returns g c =
    let asked = det c.args.words.now in
    let file = c.in_ok-file.file in
    present_then g.F.Folder asked.file (Breaks asked) (rw c.as_str.ensures.value at c.in_ok-bytes.ensures)
    (finds_as g.F.Folder (Ok c.in_ok-breaks_text.field-0)
    (finds_then g.F.Folder (IsIn asked c.in_ok-bytes.bytes) IsText {GoodX = λ file. Unit {0}}
    (finds_this g.F.Folder (file_in None asked.from c.in_ok-bytes.bytes []) file (subst (λ (d : List ℕ). file_in None asked.from c.in_ok-bytes.bytes d ≡ Ok file) c.new.ensures c.in_ok-file.ensures.file) tt)
    (finds_this g.F.Folder (Ok (breaks_text file.res_fork)) c.in_ok-breaks_text.field-0
    (ap (λ (text : List ℕ). Ok text) (ap breaks_text (sym c.as_slice.ensures) ∙ sym c.in_ok-breaks_text.ensures)) tt))
    (λ files answer is. binds (file_in None asked.from c.in_ok-bytes.bytes []) (λ file. Ok (breaks_text file.res_fork)) answer is))
