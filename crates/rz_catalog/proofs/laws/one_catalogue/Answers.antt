use Rattle.rz_catalog.proofs.Stocks.{one_catalogue}
use Rattle.rz_catalog.proofs.laws.one_catalogue.Goals as goal

pub returns : goal.returns
returns c types moment list entries others is also = one_catalogue types moment c.one_tree.ensures list entries others is also
