use Rattle.rz_unlay.proofs.Trees.{one_tree}
use Rattle.rz_unlay.proofs.tree.one_tree.Goals as goal

pub returns : goal.returns
returns c fields known bytes body another row other tree also = one_tree known bytes c.one_plain_row.ensures fields body another row other tree also
