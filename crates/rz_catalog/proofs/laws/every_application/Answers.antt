use Rattle.rz_catalog.proofs.Applied.{every_application}
use Rattle.rz_catalog.proofs.laws.every_application.Goals as goal

pub returns : goal.returns
returns c types moment over list entries =
    every_application c.one_tree.ensures c.one_spelling.ensures.one c.plain_rows_are_spelled.ensures types moment c.trees_are_decided.ensures c.one_spelling.ensures.some
    c.spelled_rows_are_rows.ensures.plainly over list entries
