use Rattle.rz_tools_text.proofs.OneText.{one_showing, one_text}
use Rattle.rz_tools_text.proofs.laws.one_shown_text.Goals as goal

pub returns-clause-showing : goal.returns-clause-showing
returns-clause-showing c known r one other is also = one_showing c.one_tree.ensures known r one other is also

pub returns-clause-text : goal.returns-clause-text
returns-clause-text c known list one other is also = one_text c.one_tree.ensures known list one other is also
