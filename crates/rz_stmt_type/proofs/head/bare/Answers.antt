use Rattle.rz_stmt_type.proofs.head.bare.Goals as goal

pub returns-in-None : goal.returns-in-None
returns-in-None c front is = c.in-None.ensures is.0 is.1
