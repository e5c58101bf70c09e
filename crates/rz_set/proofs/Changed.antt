-- What a change answers.
use Rattle.std.proofs.Common.{◌≡◌, Bool, List, filter, flat_map, Some, None, Ok, Err, sym, ap, ◌∙◌}
use Rattle.rz_core.specs.Lists.{or_else, unless_fault}
use Rattle.rz_core.specs.declared.resource.OsType.{OsType}
use Rattle.rz_core.specs.declared.resource.Resource.{Resource}
use Rattle.rz_set.specs.After.{forbidden}
use Rattle.rz_set.specs.Change.{after_change, changed, with_other}
use Rattle.rz_set.specs.Choice.{chooses, missing}
use Rattle.rz_set.specs.declared.pick.Head.{Head}
use Rattle.rz_set.specs.declared.pick.Pick.{Pick}
use Rattle.rz_set.specs.declared.pick.SetFault.{SetFault}

module _ (kind : OsType) (pick : Pick) (head : Head) (over : Bool) (list : List Resource) where
  pub missing_changed : (fault : SetFault) → missing kind pick list ≡ Some fault → after_change kind pick head over list ≡ Err fault
  missing_changed fault is =
      ap (λ o. unless_fault (or_else o (forbidden over (flat_map (with_other head list) (filter (chooses kind pick list) list)))) (changed (chooses kind pick list) head list)) is

  module _ (wanted : Resource → Bool) (same : wanted ≡ chooses kind pick list) (there : missing kind pick list ≡ None) where
    changed_is : after_change kind pick head over list ≡ unless_fault (forbidden over (flat_map (with_other head list) (filter wanted list))) (changed wanted head list)
    changed_is = λ i. unless_fault (or_else (there i) (forbidden over (flat_map (with_other head list) (filter (sym same i) list)))) (changed (sym same i) head list)

    pub forbidden_changed : (fault : SetFault) → Some fault ≡ forbidden over (flat_map (with_other head list) (filter wanted list)) → after_change kind pick head over list ≡ Err fault
    forbidden_changed fault is = changed_is ∙ ap (λ o. unless_fault o (changed wanted head list)) (sym is)

    pub is_changed : (after : List Resource) → None ≡ forbidden over (flat_map (with_other head list) (filter wanted list)) → after ≡ changed wanted head list
        → after_change kind pick head over list ≡ Ok after
    is_changed after is left =
        changed_is ∙ ap (λ o. unless_fault o (changed wanted head list)) (sym is) ∙ ap (λ (l : List Resource). Ok l) (sym left)
