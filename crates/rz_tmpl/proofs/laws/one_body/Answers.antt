use Rattle.rz_tmpl.proofs.TemplateBytes.{once}
use Rattle.rz_tmpl.proofs.laws.one_body.Goals as goal

pub returns : goal.returns
returns c = once c.one_cut.ensures
