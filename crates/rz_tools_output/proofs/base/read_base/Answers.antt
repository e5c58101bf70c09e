use Rattle.std.proofs.Common.{ℕ, List, None, Ok, false, ap, sym}
use Rattle.std.specs.FinMap as finite
use Rattle.std.specs.declared.result.Result.{Result}
use Rattle.std.specs.Prelude.{◌≡◌}
use Rattle.rz_core.specs.Stop.{seen}
use Rattle.rz_core.specs.declared.fault.Fault.{Fault}
use Rattle.rz_folder.proofs.Finding.{finds_as, finds_end, finds_stop, finds_then, finds_this, seen_end, stops_so}
use Rattle.rz_folder.specs.Folder.{Files}
use Rattle.rz_folder.proofs.Present.{unplaced}
use Rattle.rz_tools_output.specs.Base.{base_in, begun_of, new_base, Base, CanBegin, HasOrNone}
use Rattle.rz_tools_output.specs.declared.base.Beginning.{Beginning}
use Rattle.rz_tools_output.proofs.Begins.{begins_new, begins_there, can_begin_new}
use Rattle.rz_tools_output.proofs.base.read_base.Goals as goal

abbrev IsThere : List ℕ → Files → Result (List ℕ) Fault → Type 0
IsThere name files = HasOrNone (finite.get files name)

abbrev BeginsIn : Files → List ℕ → Result Base Fault → Type 0
BeginsIn files bytes answer = base_in false None bytes ≡ answer

pub read_or_empty-requires : goal.read_or_empty-requires
read_or_empty-requires g c = c.requires c.if-not-append.false

pub returns-then-not-append : goal.returns-then-not-append
returns-then-not-append g c =
    finds_as g.F.Folder (Ok (begun_of c.new_file.result))
    (finds_this g.F.Folder (Ok new_base) {Good = CanBegin} (begun_of c.new_file.result) (ap (λ (b : Base). Ok b) (sym c.new_file.ensures.base)) (can_begin_new (begun_of c.new_file.result) c.new_file.ensures.base))
    (begins_new c.args.append c.args.name.now c.if-not-append.true)

pub returns-in_err-bytes : goal.returns-in_err-bytes
returns-in_err-bytes g c =
    finds_as g.F.Folder (seen begun_of c.from_residual.result)
    (finds_stop g.F.Folder (IsThere c.args.name.now) BeginsIn (seen begun_of c.from_residual.result) (seen_end begun_of c.from_residual.result _ c.from_residual.ensures.1) c.in_err-bytes.ensures)
    (begins_there c.args.append c.args.name.now c.if-not-append.false)

pub returns-in_err-base_in : goal.returns-in_err-base_in
returns-in_err-base_in g c =
    let result = c.from_residual-in_err-base_in.result in
    finds_as g.F.Folder (seen begun_of result)
    (finds_then g.F.Folder (IsThere c.args.name.now) BeginsIn c.in_ok-bytes.ensures
    (finds_end g.F.Folder (seen begun_of result) (seen_end begun_of result _ c.from_residual-in_err-base_in.ensures.1)
    (stops_so g.F.Folder (base_in false None c.in_ok-bytes.bytes) {Good = CanBegin} c.in_err-base_in.field-0.0 c.in_err-base_in.ensures.base (unplaced Beginning Base c.in_err-base_in.field-0.0 c.in_err-base_in.ensures.nameable))))
    (begins_there c.args.append c.args.name.now c.if-not-append.false)

pub returns : goal.returns
returns g c =
    let begun = c.in_ok-base_in.field-0 in
    finds_as g.F.Folder (Ok (begun_of begun))
    (finds_then g.F.Folder (IsThere c.args.name.now) BeginsIn c.in_ok-bytes.ensures
    (finds_this g.F.Folder (base_in false None c.in_ok-bytes.bytes) {Good = CanBegin} (begun_of begun) c.in_ok-base_in.ensures.base
    (record { keys = c.in_ok-base_in.ensures.keys; named = c.in_ok-base_in.ensures.named; room = c.in_ok-base_in.ensures.room })))
    (begins_there c.args.append c.args.name.now c.if-not-append.false)
