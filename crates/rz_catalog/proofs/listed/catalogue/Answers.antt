use Rattle.std.proofs.Common.{◌++◌, ◌∙◌, ap, List}
use Rattle.rz_types_table.specs.TypeTable.{table_of}
use Rattle.rz_catalog_text.specs.declared.entry.Entry.{Entry}
use Rattle.rz_catalog.specs.Catalogue.{catalogue}
use Rattle.rz_catalog.proofs.Stocks.{every_stock}
use Rattle.rz_catalog.proofs.listed.catalogue.Goals as goal

pub returns : goal.returns
returns c =
    let stock = every_stock (table_of c.args.types.now) c.args.moment c.trees_are_decided.ensures c.args.list.now in
    (stock.0, stock.1, c.in_ok-append_all.ensures stock.0 stock.1 ∙ ap (λ (front : List Entry). front ++ catalogue stock.0) c.new-entries.ensures)
