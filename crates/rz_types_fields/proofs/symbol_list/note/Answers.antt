use Rattle.std.proofs.Common.{nat_abs}
use Rattle.std.specs.Prelude.{bytes_eq, nat_eq}
use Rattle.std.specs.HashMap.{get, get_by}
use Rattle.rz_types_fields.proofs.SymbolPlaces.{firsts_noted, places_kept, places_noted}
use Rattle.rz_types_fields.proofs.symbol_list.note.Goals as goal

pub returns-then-not-is_new : goal.returns-then-not-is_new
returns-then-not-is_new c before size is = record {
  firsts = firsts_noted before c.args.symbol.now c.args.position size (λ l. get_by (λ k. bytes_eq l k.items) c.args.index.now.firsts) (λ l. get_by (λ k. bytes_eq l k.items) c.note_name.new.firsts)
      c.in_ok-is_new.is_new c.in_ok-name.name.items c.in_ok-name.ensures is.firsts c.in_ok-is_new.ensures.new c.in_ok-is_new.ensures.put;
  places = places_kept before c.args.symbol.now c.args.position size (λ l. get_by (λ k. bytes_eq l k.items) c.args.index.now.firsts) (λ l. get_by (λ k. bytes_eq l k.items) c.note_name.new.firsts)
      c.in_ok-is_new.is_new c.in_ok-name.name.items c.in_ok-name.ensures is.firsts c.in_ok-is_new.ensures.new c.in_ok-is_new.ensures.put
      (nat_abs c.args.index.now.width) (get nat_eq c.args.index.now.places) is.places c.if-not-is_new.true;
}

pub returns : goal.returns
returns c before size is = record {
  firsts = firsts_noted before c.args.symbol.now c.args.position size (λ l. get_by (λ k. bytes_eq l k.items) c.args.index.now.firsts) (λ l. get_by (λ k. bytes_eq l k.items) c.note_name.new.firsts)
      c.in_ok-is_new.is_new c.in_ok-name.name.items c.in_ok-name.ensures is.firsts c.in_ok-is_new.ensures.new c.in_ok-is_new.ensures.put;
  places = places_noted before c.args.symbol.now c.args.position size (λ l. get_by (λ k. bytes_eq l k.items) c.args.index.now.firsts) (λ l. get_by (λ k. bytes_eq l k.items) c.note_name.new.firsts)
      c.in_ok-is_new.is_new c.in_ok-name.name.items c.in_ok-name.ensures is.firsts c.in_ok-is_new.ensures.new c.in_ok-is_new.ensures.put
      (nat_abs c.args.index.now.width) (get nat_eq c.args.index.now.places) is.places c.if-not-is_new.false c.own_number-number.result c.own_number-number.ensures
      (get nat_eq c.note_number.new.places) c.in_ok-note_number.ensures;
}
