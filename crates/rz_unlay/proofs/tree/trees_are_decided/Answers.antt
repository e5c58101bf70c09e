use Rattle.rz_unlay.proofs.Trees.{trees_decided}
use Rattle.rz_unlay.proofs.tree.trees_are_decided.Goals as goal

pub returns : goal.returns
returns c fields known bytes = trees_decided known bytes c.told_rows_are_decided.ensures fields
