use Rattle.std.proofs.Common.{◌≡◌, ◌≤◌, true, length, Err, refl}
use Rattle.rz_tmpl.proofs.TemplateBytes.{bodies_hold, faults_hold, within}
use Rattle.rz_tmpl.proofs.laws.tmpl_types_are_templates.Goals as goal
use Rattle.rz_tmpl.specs.Faults.{IsSayable}
use Rattle.rz_types.specs.Rules.{keeps_rules}
use Rattle.rz_types_fields.specs.Shape.{is_well_shaped}

pub returns-clause-shaped : goal.returns-clause-shaped
returns-clause-shaped c = bodies_hold (λ body. is_well_shaped body ≡ true) (λ items kept ends few. c.tmpl_bodies_are_templates.ensures.shaped items kept few)

pub returns-clause-kept : goal.returns-clause-kept
returns-clause-kept c = bodies_hold (λ body. keeps_rules body ≡ true) c.tmpl_bodies_are_templates.ensures.kept

pub returns-clause-sayable : goal.returns-clause-sayable
returns-clause-sayable c bytes = faults_hold IsSayable bytes (c.tmpl_faults_are_sayable.ensures bytes)

pub returns-clause-within : goal.returns-clause-within
returns-clause-within c bytes = faults_hold (λ fault. fault.offset ≤ length bytes) bytes (λ fault is. within bytes (Err fault) fault is refl)
