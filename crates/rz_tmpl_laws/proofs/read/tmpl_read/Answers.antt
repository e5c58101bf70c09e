use Rattle.rz_types.specs.Template.{template_of}
use Rattle.rz_unlay.specs.Reading.{row_in}
use Rattle.rz_tmpl_laws.proofs.Readings.{reading_is, said_told}
use Rattle.rz_tmpl_laws.proofs.read.tmpl_read.Goals as goal

pub returns-clause-told : goal.returns-clause-told
returns-clause-told c =
    reading_is c.said_rows_are_plain.ensures c.closed_templates_are_readable.ensures c.args.tmpl.now c.bytes_are_counted.ensures c.args.facts.now c.args.bytes.now
    (template_of c.in_ok-template.template) (row_in c.in_ok-read.field-0) c.in_ok-template.ensures c.in_ok-read.ensures.told

pub returns-clause-every : goal.returns-clause-every
returns-clause-every c = λ items row cut said.
    c.in_ok-read.ensures.every row
    (said_told c.said_rows_are_plain.ensures c.closed_templates_are_readable.ensures c.args.tmpl.now c.bytes_are_counted.ensures c.args.facts.now c.args.bytes.now c.one_cut.ensures
    (template_of c.in_ok-template.template) c.in_ok-template.ensures items row cut said)
