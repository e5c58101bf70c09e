use Rattle.rz_catalog.proofs.Changes.{changed_catalogue}
use Rattle.rz_catalog.proofs.laws.changed_catalogue.Goals as goal

pub returns : goal.returns
returns c types moment over list new entries own is are = changed_catalogue types moment entries c.one_tree.ensures over list new own is are
