use Rattle.std.proofs.Common.{◌≡◌, ℕ, List, Ok, Err, sym, subst}
use Rattle.std.proofs.lemmas.Option.{IfSome_then}
use Rattle.std.proofs.lemmas.Result.{err_from_is_err_and}
use Rattle.std.specs.declared.result.Result.{Result}
use Rattle.rz_core.specs.Stop.{Gives, Yields}
use Rattle.rz_core.specs.declared.fault.Fault.{Fault}
use Rattle.rz_bridge.specs.declared.file.MacFile.{MacFile}
use Rattle.rz_types_fields.specs.Text.{plain_key}
use Rattle.rz_tools_values.specs.Files.{file_of_name}
use Rattle.rz_tools_values.specs.Texts.{bytes_in, key_said, resource_bytes}
use Rattle.rz_tools_values.proofs.Calls.{yields_on, yields_same}
use Rattle.rz_tools_values.proofs.Split.{resource_split}
use Rattle.rz_tools_values.proofs.texts.resource_named.Goals as goal

pub returns-clause-read : goal.returns-clause-read
returns-clause-read g c =
    let paths = c.args.file.paths.now in
    let mark = c.args.file.mark in
    let name = c.args.file.name.now in
    let kind = c.args.kind in
    let pick = c.in_ok-pick.pick in
    let bytes = c.in_ok-bytes_in.field-0 in
    IfSome_then (g.F.Folder.files c.args.folder.now) c.in_ok-told.ensures.file (λ files yields.
    yields_on (key_said mark c.args.known.now (plain_key c.args.key.now)) (resource_bytes paths files mark name kind) pick (Ok bytes) (sym c.in_ok-pick.ensures.pick)
    (subst (λ (a : Result (List ℕ) Fault). Yields {X = List ℕ} (Ok bytes) (λ answer. answer ≡ a)) (sym (resource_split mark kind pick paths files name))
    (yields_on (file_of_name paths files mark name) (λ (file : MacFile). bytes_in mark kind pick file.res_fork) c.in_ok-told.told (Ok bytes) yields
    (sym (rw c.as_slice-fork.ensures at c.in_ok-bytes_in.ensures.bytes)))))

pub returns-in_err-bytes_in-clause-read : goal.returns-in_err-bytes_in-clause-read
returns-in_err-bytes_in-clause-read g c =
    let paths = c.args.file.paths.now in
    let mark = c.args.file.mark in
    let name = c.args.file.name.now in
    let kind = c.args.kind in
    let pick = c.in_ok-pick.pick in
    let stop = c.in_err-bytes_in.field-0.0 in
    let p = err_from_is_err_and c.from_residual-in_err-bytes_in.result c.from_residual-in_err-bytes_in.ensures.1 in
    IfSome_then (g.F.Folder.files c.args.folder.now) c.in_ok-told.ensures.file (λ files yields.
    rw p.1 (yields_on {Y = List ℕ} (key_said mark c.args.known.now (plain_key c.args.key.now)) (resource_bytes paths files mark name kind) pick (Err p.0) (sym c.in_ok-pick.ensures.pick)
    (subst (λ (a : Result (List ℕ) Fault). Yields {X = List ℕ} (Err p.0) (λ answer. answer ≡ a)) (sym (resource_split mark kind pick paths files name))
    (yields_on {Y = List ℕ} (file_of_name paths files mark name) (λ (file : MacFile). bytes_in mark kind pick file.res_fork) c.in_ok-told.told (Err p.0) yields
    (yields_same (List ℕ) (bytes_in mark kind pick c.in_ok-told.told.res_fork) stop p.0 p.2
    (subst (λ (fork : List ℕ). Gives {X = List ℕ} (bytes_in mark kind pick fork) (Err stop)) c.as_slice-fork.ensures c.in_err-bytes_in.ensures.bytes))))))
