use Rattle.rz_catalog.proofs.Changes.{others_stay}
use Rattle.rz_catalog.proofs.laws.others_stay.Goals as goal

pub returns : goal.returns
returns c types moment over list new entries is = others_stay types moment entries c.one_tree.ensures over list new is
