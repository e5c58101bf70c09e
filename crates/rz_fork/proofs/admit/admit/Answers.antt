use Rattle.std.proofs.Common.{◌∙◌, sym}
use Rattle.std.proofs.lemmas.Result.{err_from_is_err_and}
use Rattle.rz_fork.proofs.Breaking.{lists_tested, map_tested}
use Rattle.rz_fork.proofs.admit.admit.Goals as goal

pub returns-in_err-outline-clause-first : goal.returns-in_err-outline-clause-first
returns-in_err-outline-clause-first c =
    let p = err_from_is_err_and c.from_residual.result c.from_residual.ensures.1 in
    rw (p.1, p.2) (map_tested c.args.bytes.now _ c.requires.some c.in_err-outline.ensures.err)

pub returns-in-Some-clause-first : goal.returns-in-Some-clause-first
returns-in-Some-clause-first c =
    lists_tested c.args.bytes.now c.in_ok-outline.outline c.requires.some c.in_ok-outline.ensures.ok c.in_ok-outline.ensures.outline ∙ sym c.in-Some.ensures.rule

pub returns-clause-first : goal.returns-clause-first
returns-clause-first c =
    lists_tested c.args.bytes.now c.in_ok-outline.outline c.requires.some c.in_ok-outline.ensures.ok c.in_ok-outline.ensures.outline ∙ sym c.in_default.ensures.rule
