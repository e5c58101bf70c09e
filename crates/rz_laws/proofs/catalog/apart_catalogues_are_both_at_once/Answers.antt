use Rattle.rz_laws.proofs.Twice.{at_once, in_turn}
use Rattle.rz_laws.proofs.catalog.apart_catalogues_are_both_at_once.Goals as goal

pub returns : goal.returns
returns c types moment over list new entries others apart = (
  in_turn types moment c.one_tree.ensures entries others apart c.trees_are_decided.ensures over list new,
  λ it. at_once types moment c.one_tree.ensures entries others apart over list it.0 new it.1 it.2,
)
