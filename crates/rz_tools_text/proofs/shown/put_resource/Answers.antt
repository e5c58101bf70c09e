use Rattle.std.proofs.Common.{refl, sym}
use Rattle.std.proofs.lemmas.Result.{err_from_is_err_and}
use Rattle.rz_fork.specs.View.{lent}
use Rattle.rz_tools_text.specs.Held.{known_of}
use Rattle.rz_tools_text.proofs.Rows.{nothing_put, undeclared_put}
use Rattle.rz_tools_text.proofs.shown.put_resource.Goals as goal

pub put_under-requires-clause-declared : goal.put_under-requires-clause-declared
put_under-requires-clause-declared g c = sym c.in-Some.ensures

pub returns-in_err-facts-clause-told : goal.returns-in_err-facts-clause-told
returns-in_err-facts-clause-told g c text shown =
    let p = err_from_is_err_and c.from_residual.result c.from_residual.ensures.1 in
    rw p.1 (nothing_put (known_of c.args.known.now) (lent c.args.view.now) text shown _ p.0)

pub returns-clause-told : goal.returns-clause-told
returns-clause-told g c text shown =
    undeclared_put c.one_shown_text.ensures.showing (known_of c.args.known.now) (lent c.args.view.now) c.in_ok-facts.facts c.in_ok-facts.ensures _ _ c.put_lines.result text shown
    (sym c.in-None.ensures) c.of_bytes.result c.of_bytes.ensures c.put_lines.ensures.told

pub returns-in_err-facts-clause-counted : goal.returns-in_err-facts-clause-counted
returns-in_err-facts-clause-counted g c = (let p = err_from_is_err_and c.from_residual.result c.from_residual.ensures.1 in rw p.1 refl)
