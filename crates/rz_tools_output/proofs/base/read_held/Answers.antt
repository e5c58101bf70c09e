use Rattle.std.proofs.Common.{ℕ, List, Option, true, refl}
use Rattle.std.specs.declared.result.Result.{Result}
use Rattle.std.specs.Prelude.{◌≡◌}
use Rattle.rz_bridge_files.specs.declared.form.Form.{Form}
use Rattle.rz_core.specs.Stop.{seen}
use Rattle.rz_core.specs.declared.fault.Fault.{Fault}
use Rattle.rz_folder.proofs.Finding.{finds_end, finds_this, seen_end, stops_so}
use Rattle.rz_folder.specs.Folder.{Files}
use Rattle.rz_folder.proofs.Present.{absent_stop, present_then, unplaced}
use Rattle.rz_tools_output.specs.Base.{base_held, base_in, begun_of, Base, IsShortBase}
use Rattle.rz_tools_output.specs.declared.base.Beginning.{Beginning}
use Rattle.rz_tools_output.proofs.base.read_held.Goals as goal

abbrev Holds : Option Form → List ℕ → Files → Option (List ℕ) → Result Base Fault → Type 0
Holds form name files entry answer = base_held form name entry ≡ answer

pub returns-in_err-bytes : goal.returns-in_err-bytes
returns-in_err-bytes g c =
    absent_stop g.F.Folder c.args.name.now (Holds c.args.form c.args.name.now) (seen begun_of c.from_residual.result) (seen_end begun_of c.from_residual.result _ c.from_residual.ensures.1)
    (λ files. refl) (λ fault is. is) c.in_err-bytes.ensures

pub returns-in_err-base_in : goal.returns-in_err-base_in
returns-in_err-base_in g c =
    let result = c.from_residual-in_err-base_in.result in
    present_then g.F.Folder c.args.name.now (Holds c.args.form c.args.name.now) c.in_ok-bytes.ensures
    (finds_end g.F.Folder (seen begun_of result) (seen_end begun_of result _ c.from_residual-in_err-base_in.ensures.1)
    (stops_so g.F.Folder (base_in true c.args.form c.in_ok-bytes.bytes) {Good = IsShortBase} c.in_err-base_in.field-0.0 c.in_err-base_in.ensures.base
    (unplaced Beginning Base c.in_err-base_in.field-0.0 c.in_err-base_in.ensures.nameable)))

pub returns : goal.returns
returns g c =
    let begun = c.in_ok-base_in.field-0 in
    present_then g.F.Folder c.args.name.now (Holds c.args.form c.args.name.now) c.in_ok-bytes.ensures
    (finds_this g.F.Folder (base_in true c.args.form c.in_ok-bytes.bytes) {Good = IsShortBase} (begun_of begun) c.in_ok-base_in.ensures.base (record {
      begins = record { keys = c.in_ok-base_in.ensures.keys; named = c.in_ok-base_in.ensures.named; room = c.in_ok-base_in.ensures.room };
      short = c.in_ok-base_in.ensures.short refl;
    }))
