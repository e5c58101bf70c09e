use Rattle.rz_pre.specs.Program.{start}
use Rattle.rz_pre_laws.proofs.Unfolded.{all_names, names_back}
use Rattle.rz_pre_laws.proofs.laws.one_list_of_entries.Goals as goal

pub returns-clause-entries : goal.returns-clause-entries
returns-clause-entries c files tool names paths defs answer goes =
    let u = all_names tool files paths names (start defs) answer goes in
    (u.entries, u.fault, u.unfolds, u.each, u.is)

pub returns-clause-program : goal.returns-clause-program
returns-clause-program c files tool names paths defs = names_back tool files paths names (start defs)
