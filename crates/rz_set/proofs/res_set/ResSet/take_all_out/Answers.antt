use Rattle.std.proofs.Common.{rules, not, List, filter, sym, ap, subst, ◌∙◌}
use Rattle.indexmap.proofs.CallerLemmas.{filter-RetainsPairs}
use Rattle.rz_core.specs.declared.resource.Resource.{Resource}
use Rattle.rz_set.specs.ResSet.{values_of, AreKeyed}
use Rattle.rz_set.specs.Wanted.{is_wanted}
use Rattle.rz_set.proofs.Kept.{are_keyed, values_kept}
use Rattle.rz_set.proofs.res_set.ResSet.take_all_out.Goals as goal

pub invariant_of-self : goal.invariant_of-self
invariant_of-self c =
    subst AreKeyed (sym (filter-RetainsPairs _ (λ e. not (is_wanted c.args.wanted e.1)) _ (λ k v b w g call. search rules) _ _ c.retain.ensures.filtered))
    (are_keyed (λ r. not (is_wanted c.args.wanted r)) c.self.inside.map.entries c.self.invariant)

pub returns : goal.returns
returns c =
    ap values_of (filter-RetainsPairs _ (λ e. not (is_wanted c.args.wanted e.1)) _ (λ k v b w g call. search rules) _ _ c.retain.ensures.filtered)
    ∙ values_kept (λ r. not (is_wanted c.args.wanted r)) c.self.inside.map.entries
    ∙ ap (λ (l : List Resource). filter (λ r. not (is_wanted c.args.wanted r)) l) c.self.view_is
