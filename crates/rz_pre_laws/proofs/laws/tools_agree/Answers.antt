use Rattle.rz_pre.specs.Program.{start}
use Rattle.rz_pre_laws.proofs.Tools.{asks_none, goes_too, names_too, puts_none}
use Rattle.rz_pre_laws.proofs.laws.tools_agree.Goals as goal

pub returns-clause-entries : goal.returns-clause-entries
returns-clause-entries c files names paths defs tool other entries = names_too tool other files paths names (start defs) entries

pub returns-clause-program : goal.returns-clause-program
returns-clause-program c files names paths defs tool other state = goes_too tool other files paths names defs state

pub returns-clause-unnamed : goal.returns-clause-unnamed
returns-clause-unnamed c files names paths defs tool unnamed = (asks_none tool files paths names defs unnamed, puts_none tool files paths names defs unnamed)
