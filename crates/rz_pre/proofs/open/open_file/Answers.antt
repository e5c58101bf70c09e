use Rattle.std.proofs.lemmas.Result.{err_from_is_err_and}
use Rattle.rz_folder.specs.Names.{missing_file}
use Rattle.rz_pre.specs.Reading.{state_of, together}
use Rattle.rz_pre.proofs.Going.{at_some, opens_badly, unread_leaves}
use Rattle.rz_folder.proofs.Found.{if_some}
use Rattle.rz_pre.proofs.open.open_file.Goals as goal

pub returns-in_err-name-clause-opened : goal.returns-in_err-name-clause-opened
returns-in_err-name-clause-opened g c = if_some (g.F.Folder.files c.args.folder.now) _ (λ files told.
    let p = err_from_is_err_and c.from_residual.result c.from_residual.ensures.1 in
    rw (p.1, p.2) (unread_leaves together c.in_err-name.field-0.0 _ _ c.in_err-name.ensures.no_rule))

pub returns-in_err-text_of-in-Some-clause-opened : goal.returns-in_err-text_of-in-Some-clause-opened
returns-in_err-text_of-in-Some-clause-opened g c = if_some (g.F.Folder.files c.args.folder.now) _ (λ files told.
    let p = err_from_is_err_and c.from_residual-in_err-text_of-in-Some.result c.from_residual-in_err-text_of-in-Some.ensures.1 in
    rw (p.1, p.2) (opens_badly files c.args.names.now (missing_file c.args.mark c.args.kept.now) (state_of c.args.reading.now) c.in-Some.name.now c.in-Some.source
    (rw c.in-Some.is at (at_some _ files told _ c.in_ok-name.ensures.found)) c.in_err-text_of-in-Some.field-0.0 (rw c.len-file.ensures at c.in_err-text_of-in-Some.ensures.text)
    _ c.in_ok-push-in-Some.ensures.ok))
