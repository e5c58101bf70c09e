use Rattle.std.proofs.Common.{ℕ, List, sym, ap, ◌∙◌, option_map, slice_get}
use Rattle.std.proofs.lemmas.Option.{slice_get-map}
use Rattle.std.specs.HashMap.{get}
use Rattle.rz_catalog.specs.Held.{entry_key, held_of, key_eq}
use Rattle.rz_catalog.specs.declared.stock.Held.{Held}
use Rattle.rz_catalog.proofs.Firsts.{stock_none, stock_some}
use Rattle.rz_catalog.proofs.stock.Stock.find.Goals as goal

pub returns-in-Some : goal.returns-in-Some
returns-in-Some c stock held =
    let at = stock_some stock c.args.entry.now c.in-Some.place.now
    (sym (held.places (entry_key c.args.entry.now)) ∙ sym (ap (λ (k : ℕ × ℕ). get key_eq c.args.self.now.places k) c.entry_key.ensures) ∙ sym c.in-Some.ensures.value) in
    c.held_at.ensures ∙ ap (λ (each : List Held). slice_get each c.in-Some.place.now) held.each ∙ slice_get-map held_of stock c.in-Some.place.now
    ∙ ap (option_map held_of) (sym at)

pub returns-in-None : goal.returns-in-None
returns-in-None c stock held =
    sym (ap (option_map held_of) (stock_none stock c.args.entry.now
    (sym (held.places (entry_key c.args.entry.now)) ∙ sym (ap (λ (k : ℕ × ℕ). get key_eq c.args.self.now.places k) c.entry_key.ensures) ∙ sym c.in-None.ensures.value)))
