use Rattle.std.proofs.Common.{ap}
use Rattle.std.specs.Option.{is_none}
use Rattle.rz_tmpl.specs.Body.{tmpl_body}
use Rattle.rz_tmpl.proofs.Kept.{breaks_none}
use Rattle.rz_tmpl.proofs.Shape.{well_shaped}
use Rattle.rz_tmpl.proofs.laws.tmpl_bodies_are_templates.Goals as goal

pub returns-clause-shaped : goal.returns-clause-shaped
returns-clause-shaped c = well_shaped

pub returns-clause-kept : goal.returns-clause-kept
returns-clause-kept c = λ items kept ends few. ap is_none ((c.first_broken_rule.ensures.kept (tmpl_body items)).1 (breaks_none items kept ends few))
