use Rattle.std.proofs.Common.{◌++◌, ◌∷◌, [], ◌∙◌, ℕ, ap, sym, subst, arith, List, map, take}
use Rattle.std.proofs.lemmas.Option.{slice_get_within}
use Rattle.rz_core.specs.declared.resource.Resource.{Resource}
use Rattle.rz_types_table.specs.TypeTable.{table_of}
use Rattle.rz_catalog.specs.Held.{held_of, key_eq, resource_key, AreFirst}
use Rattle.rz_catalog.specs.Stock.{Stocked}
use Rattle.rz_catalog.specs.declared.stock.Held.{Held}
use Rattle.rz_catalog.proofs.Holding.{map_more, taken_length}
use Rattle.rz_catalog.proofs.Walk.{stocked_at, taken}
use Rattle.rz_catalog.proofs.stock.Stock.of.Goals as goal

pub loop-k-preserved : goal.loop-k-preserved
loop-k-preserved c = record {
  within = let lt = slice_get_within c.args.list.now c.loop-k.k c.at-resource.result.now c.at-resource.ensures in omega (arith, lt);
  places = λ stock are.
      let one = stocked_at (table_of c.args.types.now) c.args.moment c.args.list.now stock are c.loop-k.k c.at-resource.result.now c.at-resource.ensures in
      let key : Stocked → ℕ × ℕ = λ s. resource_key s.resource in
      subst (λ (keys : List (ℕ × ℕ)). AreFirst key_eq keys c.note.new.places)
      (ap (λ (k : ℕ × ℕ). map key (take c.loop-k.k stock) ++ k ∷ []) (c.resource_key.ensures ∙ ap resource_key (sym one.same)) ∙ sym (map_more key stock c.loop-k.k one.s one.at))
      (c.in_ok-note.ensures (map key (take c.loop-k.k stock)) (taken_length key stock c.loop-k.k one.s one.at) (c.loop-k.invariant.places stock are));
  each = λ stock are.
      let one = stocked_at (table_of c.args.types.now) c.args.moment c.args.list.now stock are c.loop-k.k c.at-resource.result.now c.at-resource.ensures in
      c.in_ok-push.ensures.ok ∙ ap (λ (l : List Held). l ++ c.in_ok-held_of.field-0 ∷ []) (c.loop-k.invariant.each stock are)
      ∙ ap (λ (h : Held). map held_of (take c.loop-k.k stock) ++ h ∷ [])
      (c.in_ok-held_of.ensures one.s.tree one.tree ∙ ap (λ (r : Resource). held_of (record { resource = r; tree = one.s.tree })) (sym one.same))
      ∙ sym (map_more held_of stock c.loop-k.k one.s one.at);
}

pub returns : goal.returns
returns c stock are =
    let all = taken (table_of c.args.types.now) c.args.moment c.args.list.now stock are c.loop-k.k (omega (arith, c.loop-k-test.false, c.len.ensures)) in
    record {
      places = subst (λ (s : List Stocked). AreFirst key_eq (map (λ s. resource_key s.resource) s) c.loop-k.places) all (c.loop-k.invariant.places stock are);
      each = c.loop-k.invariant.each stock are ∙ ap (map held_of) all;
    }
