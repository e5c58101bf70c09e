use Rattle.std.proofs.Common.{◌≡◌, List, IfSome, nat_abs, of_z, to_z, w32, sym, ap, subst, ◌∙◌}
use Rattle.std.proofs.lemmas.Bool.Decides.{Decides-int_eq}
use Rattle.std.proofs.lemmas.Int.{to_z-of_z}
use Rattle.rz_types_fields.specs.Symbols.{symbol_for, IsIndexOf}
use Rattle.rz_types_fields.specs.declared.field.Symbol.{Symbol}
use Rattle.rz_types_fields.specs.declared.symbol_list.SymbolIndex.{SymbolIndex}
use Rattle.rz_types_fields.proofs.symbol_list.Symbols.name_for.Goals as goal

pub name_in-requires : goal.name_in-requires
name_in-requires c =
    let held = subst (λ o. IfSome o (λ index. IsIndexOf c.self.inside.list index.value)) c.in-Some.is c.self.invariant in
    let own = subst (λ (l : List Symbol). IsIndexOf l c.in-Some.index.value) (sym c.as_slice-symbols.ensures) held in
    subst (IsIndexOf c.as_slice-symbols.result.now) (sym c.deref-then-is_for.ensures) own

pub returns-then-is_for : goal.returns-then-is_for
returns-then-is_for c =
    let all : c.as_slice-symbols.result.now ≡ c.args.self.now = c.as_slice-symbols.ensures ∙ c.self.view_is in
    let width : c.deref-then-is_for.result.now.width ≡ c.args.width =
    ap (λ (index : SymbolIndex). index.width) (c.deref-then-is_for.ensures ∙ sym c.deref.ensures)
    ∙ (Decides-int_eq c.deref.result.now.width (to_z w32 (of_z w32 c.args.width))).0 (sym c.is_for.ensures ∙ c.if-is_for.true)
    ∙ to_z-of_z w32 c.args.width c.ranges.width in
    c.name_in.ensures ∙ (λ i. symbol_for (all i) (nat_abs (width i)) c.args.number (all i))

pub returns : goal.returns
returns c =
    let all : c.as_slice-symbols.result.now ≡ c.args.self.now = c.as_slice-symbols.ensures ∙ c.self.view_is in
    c.name_among.ensures ∙ (λ i. symbol_for (all i) (nat_abs (to_z-of_z w32 c.args.width c.ranges.width i)) c.args.number (all i))
