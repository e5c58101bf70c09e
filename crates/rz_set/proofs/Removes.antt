-- What a removal answers.
use Rattle.std.proofs.Common.{◌≡◌, Bool, not, List, filter, Some, None, Ok, Err, sym, ap, ◌∙◌}
use Rattle.rz_core.specs.Lists.{or_else, unless_fault}
use Rattle.rz_core.specs.declared.resource.OsType.{OsType}
use Rattle.rz_core.specs.declared.resource.Resource.{Resource}
use Rattle.rz_set.specs.After.{after_remove, forbidden}
use Rattle.rz_set.specs.Choice.{chooses, missing}
use Rattle.rz_set.specs.declared.pick.Pick.{Pick}
use Rattle.rz_set.specs.declared.pick.SetFault.{SetFault}

module _ (kind : OsType) (pick : Pick) (over : Bool) (list : List Resource) where
  pub missing_removed : (fault : SetFault) → missing kind pick list ≡ Some fault → after_remove kind pick over list ≡ Err fault
  missing_removed fault is =
      ap (λ o. unless_fault (or_else o (forbidden over (filter (chooses kind pick list) list))) (filter (λ r. not (chooses kind pick list r)) list)) is

  module _ (wanted : Resource → Bool) (same : wanted ≡ chooses kind pick list) (there : missing kind pick list ≡ None) where
    removed_is : after_remove kind pick over list ≡ unless_fault (forbidden over (filter wanted list)) (filter (λ r. not (wanted r)) list)
    removed_is = λ i. unless_fault (or_else (there i) (forbidden over (filter (sym same i) list))) (filter (λ r. not (sym same i r)) list)

    pub forbidden_removed : (fault : SetFault) → Some fault ≡ forbidden over (filter wanted list) → after_remove kind pick over list ≡ Err fault
    forbidden_removed fault is = removed_is ∙ ap (λ o. unless_fault o (filter (λ r. not (wanted r)) list)) (sym is)

    pub removed : (after : List Resource) → None ≡ forbidden over (filter wanted list) → after ≡ filter (λ r. not (wanted r)) list → after_remove kind pick over list ≡ Ok after
    removed after is left =
        removed_is ∙ ap (λ o. unless_fault o (filter (λ r. not (wanted r)) list)) (sym is) ∙ ap (λ (l : List Resource). Ok l) (sym left)
