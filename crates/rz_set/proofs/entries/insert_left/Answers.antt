use Rattle.std.proofs.Common.{◌≡◌, List, [], ◌∷◌, refl, sym, ap, ◌∙◌}
use Rattle.std.specs.Vec.Iter.{into_iter_items}
use Rattle.rz_core.specs.Resources.{put_all}
use Rattle.rz_core.specs.declared.resource.Resource.{Resource}
use Rattle.rz_set.specs.Fates.{all_left}
use Rattle.rz_set.specs.ResSet.{values_of}
use Rattle.rz_set.specs.declared.change.Fate.{Fate}
use Rattle.rz_set.proofs.entries.insert_left.Goals as goal

none_left : (fates : List Fate) (rs : List Resource) → rs ≡ [] → all_left fates rs ≡ []
none_left [] rs is = is
none_left (fate ∷ fates) [] is = refl
none_left (fate ∷ fates) (r ∷ rs) is = cc

pub returns-clause-values : goal.returns-clause-values
returns-clause-values c =
    ap (λ (l : List Resource). put_all (values_of c.loop-resource.map.entries) l) (sym (none_left (into_iter_items c.loop-resource.in_order) c.loop-resource.resource-iterator c.in-None.ensures.steps.0))
    ∙ c.loop-resource.invariant.values
