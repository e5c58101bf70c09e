use Rattle.rz_laws.proofs.Grouped.{admitted_grouped}
use Rattle.rz_laws.proofs.fork.admitted_lists_are_grouped.Goals as goal

pub returns : goal.returns
returns c = admitted_grouped
