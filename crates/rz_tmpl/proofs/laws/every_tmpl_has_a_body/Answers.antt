use Rattle.rz_tmpl.proofs.TemplateBytes.{some}
use Rattle.rz_tmpl.proofs.laws.every_tmpl_has_a_body.Goals as goal

pub returns : goal.returns
returns c = some c.every_tmpl_is_cut.ensures
