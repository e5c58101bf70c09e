use Rattle.std.proofs.Common.{Option, sym, subst}
use Rattle.rz_core.specs.declared.fault.Fault.{Fault}
use Rattle.rz_core.proofs.Stops.{meets_so}
use Rattle.rz_types_table.specs.TypeTable.{table_of}
use Rattle.rz_catalog_text.specs.InOrder.{EachInOrder}
use Rattle.rz_catalog.specs.declared.check.Noted.{Noted}
use Rattle.rz_catalog.specs.Apply.{Applied, IsAppliedTo, IsRestrung}
use Rattle.rz_catalog.proofs.Applies.{refused_applies}
use Rattle.rz_catalog.proofs.Stocks.{every_stock}
use Rattle.rz_catalog.proofs.applying.apply.Goals as goal

pub returns-in-Ok : goal.returns-in-Ok
returns-in-Ok c =
    let types = table_of c.args.types.now in
    let entries = c.args.entries.now in
    let stock = every_stock types c.args.moment c.trees_are_decided.ensures c.args.list.now in
    let none = c.in-Ok.ensures.ok stock.0 (c.in_ok-held.ensures stock.0 stock.1) in
    meets_so (EachInOrder (IsRestrung types c.args.moment entries) stock.0) (Applied types c.args.moment c.args.over c.args.list.now entries)
    (λ answer so. record { stock = stock.0; stocked = stock.1; is = subst (λ (o : Option Fault). IsAppliedTo types c.args.moment stock.0 entries o answer) (sym none) so })
    c.restring_all.result (c.restring_all.ensures stock.0 stock.1)

pub returns : goal.returns
returns c =
    let types = table_of c.args.types.now in
    let stock = every_stock types c.args.moment c.trees_are_decided.ensures c.args.list.now in
    refused_applies Noted types c.args.moment c.args.over c.args.list.now c.args.entries.now stock.0 stock.1 c.in-Err.stop (c.in-Err.ensures.fault stock.0 (c.in_ok-held.ensures stock.0 stock.1))
