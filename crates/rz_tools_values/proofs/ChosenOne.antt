-- The one that is chosen.
use Rattle.std.proofs.Common.{◌≡◌, ℕ, ℤ, List, Option, sym, subst}
use Rattle.std.specs.declared.result.Result.{Result}
use Rattle.rz_core.specs.Stop.{Gives}
use Rattle.rz_core.specs.declared.fault.Fault.{Fault}
use Rattle.rz_core.specs.declared.fault.Mark.{Mark}
use Rattle.rz_core.specs.declared.resource.OsType.{OsType}
use Rattle.rz_core.specs.declared.resource.Resource.{Resource}
use Rattle.rz_core.specs.declared.stop.Stop.{Stop}
use Rattle.rz_set.specs.Choice.{found_name}
use Rattle.rz_set.specs.ResSet.{found}
use Rattle.rz_set.specs.declared.pick.Pick.{Pick}
use Rattle.rz_set.specs.declared.pick.Pick.TheVariants.{Id, Name}
use Rattle.rz_tools_values.specs.Chosen.{chosen_one, the_one}

module _ (mark : Mark) (kind : OsType) (pick : Pick) (list : List Resource) (one : Option Resource) (result : Result (Option Resource) (Stop Fault)) where
  pub chosen_by_id : (id : ℤ) → pick ≡ Id id → one ≡ found kind id list → Gives (the_one mark kind pick one) result → Gives (chosen_one mark kind pick list) result
  chosen_by_id id is there gives =
      subst (λ (p : Pick). Gives (chosen_one mark kind p list) result) (sym is)
      (subst (λ (p : Pick). Gives (the_one mark kind p (found kind id list)) result) is (subst (λ (o : Option Resource). Gives (the_one mark kind pick o) result) there gives))

  pub chosen_by_name : (name : List ℕ) → pick ≡ Name name → one ≡ found_name kind name list → Gives (the_one mark kind pick one) result
      → Gives (chosen_one mark kind pick list) result
  chosen_by_name name is there gives =
      subst (λ (p : Pick). Gives (chosen_one mark kind p list) result) (sym is)
      (subst (λ (p : Pick). Gives (the_one mark kind p (found_name kind name list)) result) is
      (subst (λ (o : Option Resource). Gives (the_one mark kind pick o) result) there gives))
