use Rattle.std.proofs.Common.{refl}
use Rattle.rz_fork.specs.View.{lent}
use Rattle.rz_types.specs.Template.{template_of}
use Rattle.rz_tools_text.specs.Held.{known_of}
use Rattle.rz_tools_text.proofs.Rows.{none_told, row_told}
use Rattle.rz_tools_text.proofs.shown.row_told.Goals as goal

pub returns-in-Some : goal.returns-in-Some
returns-in-Some c =
    row_told (known_of c.args.known.now) (lent c.args.view.now) c.args.facts.now c.requires.facts (template_of c.args.template.now) c.requires.declared
    c.in_ok-row.field-0 c.in_ok-row.ensures.told c.in_ok-row.ensures.every c.in-Some.row _ c.in-Some.is refl
    c.unless_hidden.result c.unless_hidden.ensures

pub returns-in-None : goal.returns-in-None
returns-in-None c =
    none_told (known_of c.args.known.now) (lent c.args.view.now) c.args.facts.now c.requires.facts (template_of c.args.template.now) c.requires.declared
    c.in_ok-row.field-0 c.in_ok-row.ensures.told c.in_ok-row.ensures.every c.in-None.is
