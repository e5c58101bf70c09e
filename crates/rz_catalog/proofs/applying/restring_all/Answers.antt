use Rattle.std.proofs.Common.{arith, filter, subst, sym, Ok, Err}
use Rattle.std.proofs.lemmas.Option.{slice_get_within}
use Rattle.rz_core.specs.Stop.{Meets}
use Rattle.rz_core.specs.declared.resource.Resource.{Resource}
use Rattle.rz_types_table.specs.TypeTable.{table_of}
use Rattle.rz_catalog.specs.Apply.{is_entry_for, IsPut, IsRestrung}
use Rattle.rz_catalog.proofs.InTurn.{all_answered, one_more, one_stops}
use Rattle.rz_catalog.proofs.Walk.{same_length, stocked_at}
use Rattle.rz_catalog.proofs.applying.restring_all.Goals as goal

pub loop-k-preserved : goal.loop-k-preserved
loop-k-preserved c = record {
  within = let lt = slice_get_within c.args.list.now c.loop-k.k c.at.result.now c.at.ensures in omega (arith, lt);
  lead = λ stock are.
      let types = table_of c.args.types.now in
      let one = stocked_at types c.args.moment c.args.list.now stock are c.loop-k.k c.at.result.now c.at.ensures in
      one_more (IsRestrung types c.args.moment c.args.entries.now) stock c.loop-k.k c.loop-k.news (c.loop-k.invariant.lead stock are) one.s one.at c.in-Ok.resource c.push.new.self
      (subst (λ (r : Resource). IsPut types c.args.moment r one.s.tree (filter (is_entry_for r) c.args.entries.now) (Ok c.in-Ok.resource)) (sym one.same) (c.in-Ok.ensures one.s.tree one.tree))
      c.in_ok-push-in-Ok.ensures.ok;
}

pub returns-in-Err : goal.returns-in-Err
returns-in-Err c stock are =
    let types = table_of c.args.types.now in
    let one = stocked_at types c.args.moment c.args.list.now stock are c.loop-k.k c.at.result.now c.at.ensures in
    one_stops (IsRestrung types c.args.moment c.args.entries.now) stock c.loop-k.k c.loop-k.news (c.loop-k.invariant.lead stock are) one.s one.at c.in-Err.stop
    (subst (λ (r : Resource). Meets {X = Resource} (Err c.in-Err.stop) (IsPut types c.args.moment r one.s.tree (filter (is_entry_for r) c.args.entries.now))) (sym one.same) (c.in-Err.ensures one.s.tree one.tree))

pub returns : goal.returns
returns c stock are =
    let types = table_of c.args.types.now in
    let n = same_length types c.args.moment c.args.list.now stock are in
    all_answered (IsRestrung types c.args.moment c.args.entries.now) stock c.loop-k.k c.loop-k.news (c.loop-k.invariant.lead stock are) (omega (arith, n, c.loop-k-test.false, c.len.ensures))
