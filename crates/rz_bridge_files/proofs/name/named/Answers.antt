use Rattle.std.proofs.Common.{◌≡◌, ◌≢◌, [], inl, refl, rules}
use Rattle.std.proofs.lemmas.Result.{err_from_is_err_and}
use Rattle.rz_bridge_files.specs.declared.form.Form.TheVariants.{Raw}
use Rattle.rz_bridge_files.proofs.Naming.{named_stopped}
use Rattle.rz_bridge_files.specs.Names.Named.{taken}
use Rattle.rz_bridge_files.proofs.name.named.Goals as goal

pub returns-in_err-name-clause-named : goal.returns-in_err-name-clause-named
returns-in_err-name-clause-named c =
    let p = err_from_is_err_and c.from_residual.result c.from_residual.ensures.1 in
    let not_raw : c.args.form ≢ Raw = search rules in
    let empty : c.args.file.name ≡ [] = search rules in
    rw (p.1, p.2) (named_stopped c.args.form c.args.path.now c.args.file not_raw empty c.in_err-name.field-0.0 c.in_err-name.ensures.name)

pub returns-clause-named : goal.returns-clause-named
returns-clause-named c =
    let not_raw : c.args.form ≢ Raw = search rules in
    let empty : c.args.file.name ≡ [] = search rules in
    taken not_raw empty (inl (c.in_ok-name.name, c.in_ok-name.ensures.name, refl))
