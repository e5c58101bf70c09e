use Rattle.rz_tools_output.proofs.templates.templates_in.Goals as goal

pub returns-clause-nameable : goal.returns-clause-nameable
returns-clause-nameable c files = c.in-Err.ensures.nameable files tt
