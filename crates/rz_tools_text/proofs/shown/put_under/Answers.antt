use Rattle.std.proofs.Common.{refl, ap, subst, ◌∙◌}
use Rattle.std.proofs.lemmas.Result.{err_from_is_err_and}
use Rattle.rz_core.specs.Decided.{Decided}
use Rattle.rz_fork.specs.View.{lent}
use Rattle.rz_types.specs.Field.{plain_body}
use Rattle.rz_types.specs.Template.{template_of}
use Rattle.rz_tools_text.specs.Held.{known_of}
use Rattle.rz_tools_text.specs.Shown.{TellsRow}
use Rattle.rz_tools_text.proofs.Rows.{nothing_put, row_put, told_is_row, untold_put}
use Rattle.rz_tools_text.proofs.shown.put_under.Goals as goal

pub of_tree-requires-clause-is : goal.of_tree-requires-clause-is
of_tree-requires-clause-is g c =
    told_is_row c.spelled_rows_are_rows.ensures.plainly (known_of c.args.known.now) (lent c.args.view.now) (template_of c.args.template.now) (plain_body c.as_slice.result.now)
    c.in-Some.row c.as_slice-in-Some.result.now (ap plain_body c.as_slice.ensures ∙ c.body-fields.ensures.body) c.as_slice-in-Some.ensures
    (subst (Decided (TellsRow (known_of c.args.known.now) (lent c.args.view.now) (template_of c.args.template.now))) c.in-Some.is c.in_ok-row.ensures)

pub returns-in_err-row-clause-told : goal.returns-in_err-row-clause-told
returns-in_err-row-clause-told g c text shown =
    let p = err_from_is_err_and c.from_residual.result c.from_residual.ensures.1 in
    rw p.1 (nothing_put (known_of c.args.known.now) (lent c.args.view.now) text shown _ p.0)

pub returns-in-Some-clause-told : goal.returns-in-Some-clause-told
returns-in-Some-clause-told g c text shown =
    row_put c.one_shown_text.ensures.showing (known_of c.args.known.now) (lent c.args.view.now) c.args.facts.now c.requires.facts _ _ c.put_lines.result text shown
    (template_of c.args.template.now) c.requires.declared
    c.in-Some.row c.as_slice-in-Some.result.now (plain_body c.as_slice.result.now)
    c.as_slice-in-Some.ensures (ap plain_body c.as_slice.ensures ∙ c.body-fields.ensures.body)
    (subst (Decided (TellsRow (known_of c.args.known.now) (lent c.args.view.now) (template_of c.args.template.now))) c.in-Some.is c.in_ok-row.ensures)
    c.of_tree.result c.of_tree.ensures c.put_lines.ensures.told

pub returns-in-None-clause-told : goal.returns-in-None-clause-told
returns-in-None-clause-told g c text shown =
    untold_put c.one_shown_text.ensures.showing (known_of c.args.known.now) (lent c.args.view.now) c.args.facts.now c.requires.facts _ _ c.put_lines-in-None.result text shown
    (template_of c.args.template.now) c.requires.declared
    (subst (Decided (TellsRow (known_of c.args.known.now) (lent c.args.view.now) (template_of c.args.template.now))) c.in-None.is c.in_ok-row.ensures)
    c.of_bytes.result c.of_bytes.ensures c.put_lines-in-None.ensures.told

pub returns-in_err-row-clause-counted : goal.returns-in_err-row-clause-counted
returns-in_err-row-clause-counted g c = (let p = err_from_is_err_and c.from_residual.result c.from_residual.ensures.1 in rw p.1 refl)
