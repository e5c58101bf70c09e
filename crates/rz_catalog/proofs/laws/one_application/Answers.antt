use Rattle.rz_catalog.proofs.Applied.{one_application}
use Rattle.rz_catalog.proofs.laws.one_application.Goals as goal

pub returns : goal.returns
returns c types moment over list entries answer other is also =
    one_application c.one_tree.ensures c.one_spelling.ensures.one c.plain_rows_are_spelled.ensures types moment over list entries answer other is also
