use Rattle.std.proofs.Common.{List, IfSome, sym, subst}
use Rattle.rz_types_fields.specs.Symbols.{IsIndexOf}
use Rattle.rz_types_fields.specs.declared.field.Symbol.{Symbol}
use Rattle.rz_types_fields.proofs.symbol_list.Symbols.value_of.Goals as goal

pub short_value-requires-clause-index : goal.short_value-requires-clause-index
short_value-requires-clause-index c =
    let held = subst (λ o. IfSome o (λ index. IsIndexOf c.self.inside.list index.value)) c.in-Some.is c.self.invariant in
    let own = subst (λ (l : List Symbol). IsIndexOf l c.in-Some.index.value) (sym c.as_slice-symbols.ensures) held in
    subst (IsIndexOf c.as_slice-symbols.result.now) (sym c.deref.ensures) own
