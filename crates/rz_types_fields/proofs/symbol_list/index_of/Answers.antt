use Rattle.std.proofs.Common.{◌∷◌, ◌++◌, [], List, nat_abs, take, sym, ap, subst, ◌∙◌, arith}
use Rattle.std.proofs.lemmas.List.{length-take, take_all, take_more}
use Rattle.rz_types_fields.specs.Symbols.{IsIndexOf}
use Rattle.rz_types_fields.specs.declared.field.Symbol.{Symbol}
use Rattle.rz_types_fields.proofs.SymbolPlaces.{no_index}
use Rattle.rz_types_fields.proofs.symbol_list.index_of.Goals as goal

pub loop-position-init : goal.loop-position-init
loop-position-init c =
    let none = no_index c.new.result c.new-2.result (nat_abs c.args.width) c.new.ensures.empty c.new-2.ensures.empty in record { firsts = none.0; places = none.1 }

pub loop-position-preserved : goal.loop-position-preserved
loop-position-preserved c =
    let xs = c.args.symbols.now in
    let i = c.loop-position.position in
    let one = c.index-symbols-position.result in
    subst (λ (l : List Symbol). IsIndexOf l c.note.new.index)
    (sym (take_more xs i one c.loop-position-test.true ∙ ap (λ (s : Symbol). take i xs ++ s ∷ []) (sym c.index-symbols-position.is)))
    (c.in_ok-note.ensures (take i xs) (omega (arith, length-take i xs, c.loop-position-test.true)) c.loop-position.invariant)

pub returns : goal.returns
returns c =
    subst (λ (l : List Symbol). IsIndexOf l c.loop-position.index) (take_all c.loop-position.position c.args.symbols.now c.loop-position-test.false) c.loop-position.invariant
