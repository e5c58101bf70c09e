use Rattle.rz_catalog.proofs.Stocks.{every_catalogue}
use Rattle.rz_catalog.proofs.laws.every_catalogue.Goals as goal

pub returns : goal.returns
returns c types moment list = every_catalogue types moment c.trees_are_decided.ensures list
