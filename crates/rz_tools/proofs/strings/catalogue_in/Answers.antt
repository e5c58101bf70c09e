use Rattle.rz_tools.proofs.strings.catalogue_in.Goals as goal

pub returns-in-Err-clause-nameable : goal.returns-in-Err-clause-nameable
returns-in-Err-clause-nameable c files = c.in-Err.ensures.nameable files tt
