use Rattle.std.proofs.Common.{◌++◌, ◌∙◌, ap, sym, arith, List}
use Rattle.std.proofs.lemmas.Option.{slice_get_within}
use Rattle.rz_core.specs.declared.resource.Resource.{Resource}
use Rattle.rz_types_table.specs.TypeTable.{table_of}
use Rattle.rz_catalog.specs.Catalogue.{catalogue, entries_of}
use Rattle.rz_catalog.specs.Stock.{texts_of, Stocked}
use Rattle.rz_catalog.proofs.Walk.{catalogue_more, stocked_at, taken}
use Rattle.rz_catalog.proofs.listed.append_all.Goals as goal

pub loop-k-preserved : goal.loop-k-preserved
loop-k-preserved c = record {
  within = let lt = slice_get_within c.args.list.now c.loop-k.k c.at.result.now c.at.ensures in omega (arith, lt);
  into = λ stock are.
      let one = stocked_at (table_of c.args.types.now) c.args.moment c.args.list.now stock are c.loop-k.k c.at.result.now c.at.ensures in
      catalogue_more stock c.loop-k.k one.s one.at c.args.into.now c.loop-k.into c.append_resource.new.into
      (c.in_ok-append_resource.ensures one.s.tree one.tree ∙ ap (λ (r : Resource). c.loop-k.into ++ entries_of r.kind r.id (texts_of one.s)) (sym one.same))
      (c.loop-k.invariant.into stock are);
}

pub returns : goal.returns
returns c stock are =
    c.loop-k.invariant.into stock are
    ∙ ap (λ (s : List Stocked). c.args.into.now ++ catalogue s) (taken (table_of c.args.types.now) c.args.moment c.args.list.now stock are c.loop-k.k (omega (arith, c.loop-k-test.false, c.len.ensures)))
