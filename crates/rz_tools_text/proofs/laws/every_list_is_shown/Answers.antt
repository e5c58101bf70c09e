use Rattle.rz_tools_text.proofs.EveryText.{has_each}
use Rattle.rz_tools_text.proofs.laws.every_list_is_shown.Goals as goal

pub returns : goal.returns
returns c known list = has_each c.trees_are_decided.ensures c.one_tree.ensures known list
