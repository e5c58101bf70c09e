use Rattle.rz_tools_output.proofs.Files.{of_templates}
use Rattle.rz_tools_output.proofs.laws.types_are_templates.Goals as goal

pub returns : goal.returns
returns c =
    of_templates
    (λ bytes body short has. record {
      shaped = c.tmpl_types_are_templates.ensures.shaped bytes body short has;
      kept = c.tmpl_types_are_templates.ensures.kept bytes body short has;
    })
