use Rattle.rz_laws.proofs.Drafting.{row_drafted}
use Rattle.rz_laws.proofs.First.{refused_so}
use Rattle.rz_laws.proofs.layout.refused_at.Goals as goal

pub returns-clause-refused : goal.returns-clause-refused
returns-clause-refused c = refused_so

pub returns-clause-drafted : goal.returns-clause-drafted
returns-clause-drafted c = row_drafted
