use Rattle.std.proofs.Common.{w32, to_z, of_z, sym, ap, ◌∙◌}
use Rattle.std.specs.Prelude.{nat_abs}
use Rattle.rz_types_fields.specs.Symbols.{is_stored}
use Rattle.rz_types_fields.proofs.SymbolWalks.{looked, other_value}
use Rattle.rz_types_fields.proofs.symbol_list.name_among.Goals as goal
use Rattle.rz_types_fields.proofs.symbol_list.name_among.Goals.{then-gives+else-is_stored, else-gives}

pub loop-symbol-preserved : goal.loop-symbol-preserved
loop-symbol-preserved c =
    let width = nat_abs (to_z w32 (of_z w32 c.args.width)) in
    elim c.if-gives.branch [
      | then-gives+else-is_stored w ↦
          looked c.args.symbols.now width c.args.number c.loop-symbol.symbol-index c.symbol-item.result c.loop-symbol-test.true c.symbol-item.is c.loop-symbol.invariant
          (ap (is_stored width c.args.number) (sym w.symbol_value-value.ensures) ∙ sym w.is_stored.ensures ∙ w.if-is_stored.false)
      | else-gives w ↦
          other_value c.args.symbols.now width c.args.number c.loop-symbol.symbol-index c.symbol-item.result c.loop-symbol-test.true c.symbol-item.is c.loop-symbol.invariant
          (sym c.gives.ensures ∙ w.if-gives.false)
    ]
