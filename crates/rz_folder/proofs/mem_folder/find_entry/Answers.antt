use Rattle.std.proofs.Common.{List, length, sym, ap, subst, ◌∙◌}
use Rattle.std.specs.Ordering.{nat_cmp}
use Rattle.std.specs.Cmp.Lexicographic.{slice_cmp}
use Rattle.std.proofs.lemmas.Cmp.{nat_list_cmp_total}
use Rattle.std.specs.FinMap.{find, get-from_entries}
use Rattle.rz_folder.specs.Entries.{AreWithin, pair_of, pairs_of}
use Rattle.rz_folder.specs.declared.mem_folder.Entry.{Entry}
use Rattle.rz_folder.proofs.Search.{find-same, find-other}
use Rattle.rz_folder.proofs.mem_folder.find_entry.Goals as goal

pub loop-entry-init : goal.loop-entry-init
loop-entry-init c =
    let all = sym c.into_iter-entry-iterator.ensures.into_iter_gives.0 in
    record {
      rest = get-from_entries nat_list_cmp_total _ _ ∙ ap (λ es. find (slice_cmp nat_cmp) c.args.name.now (pairs_of c.args.store.now es)) all;
      within = subst (λ (es : List Entry). AreWithin es (length c.args.store.now)) all c.requires;
    }

pub returns-then-eq-clause-found : goal.returns-then-eq-clause-found
returns-then-eq-clause-found c =
    sym (
    c.loop-entry.invariant.rest
    ∙ ap (λ es. find (slice_cmp nat_cmp) c.args.name.now (pairs_of c.args.store.now es)) c.in-Some.ensures.steps
    ∙ find-same _ (pair_of c.args.store.now c.in-Some.entry.now) _ c.if-eq.ensures
    )

pub loop-entry-preserved : goal.loop-entry-preserved
loop-entry-preserved c = record {
  rest = c.loop-entry.invariant.rest
      ∙ ap (λ es. find (slice_cmp nat_cmp) c.args.name.now (pairs_of c.args.store.now es)) c.in-Some.ensures.steps
      ∙ find-other _ (pair_of c.args.store.now c.in-Some.entry.now) _ c.if-eq.ensures;
  within = (subst (λ (es : List Entry). AreWithin es (length c.args.store.now)) c.in-Some.ensures.steps c.loop-entry.invariant.within).4;
}
