-- What an `include` statement asks for where resources are renamed, step by step.
use Rattle.std.proofs.Common.{◌≡◌, List, Option, Some, Ok, Err, sym, ap, subst, ◌∙◌}
use Rattle.std.specs.declared.result.Result.{Result}
use Rattle.rz_core.specs.Stop.{Gives, ◌>>=◌}
use Rattle.rz_core.specs.declared.fault.Fault.{Fault}
use Rattle.rz_core.specs.declared.fault.Mark.{Mark}
use Rattle.rz_core.specs.declared.resource.OsType.{OsType}
use Rattle.rz_core.specs.declared.resource.Resource.{Resource}
use Rattle.rz_core.specs.declared.stop.Stop.{Stop}
use Rattle.rz_stmt_data.specs.Head.{Head}
use Rattle.rz_stmt_lists.specs.Include as include
use Rattle.rz_stmt_lists.specs.Pick as said
use Rattle.rz_set.specs.declared.pick.Head as set
use Rattle.rz_set.specs.declared.pick.Pick.{Pick}
use Rattle.rz_tools_values.specs.Head.{head_facts}
use Rattle.rz_tools_work.specs.Include.{asked_by, asked_for}
use Rattle.rz_tools_values.specs.Chosen.{chosen_one}
use Rattle.rz_tools_work.specs.Pick.{new_head, picked}
use Rattle.rz_tools_work.specs.declared.include.Asked.{Asked}
use Rattle.rz_tools_values.specs.declared.setting.Setting.{Setting}
use Rattle.rz_tools_values.proofs.Calls.{gives_stop}

module _ (setting : Setting) (mark : Mark) (source : List Resource) (kind new_kind : OsType) (given : said.Pick) (head : Option Head) where
  abbrev all : Result Asked Fault
  all = asked_by setting mark source (include.Renamed kind.code given new_kind.code head)

  abbrev with_one : Pick → Option Resource → Result Asked Fault
  with_one pick one = new_head setting mark new_kind one head >>= λ head. Ok (asked_for kind pick (Some head))

  abbrev with_pick : Pick → Result Asked Fault
  with_pick pick = chosen_one mark kind pick source >>= with_one pick

  module _ (pick : Pick) (picks : picked mark (head_facts setting kind.code) given ≡ Ok pick) where
    behind_pick : all ≡ with_pick pick
    behind_pick = ap (λ (a : Result Pick Fault). a >>= with_pick) picks

    pub one_stop : (stop : Stop Fault) → Gives (chosen_one mark kind pick source) (Err stop) → Gives all (Err stop)
    one_stop stop gives =
        subst (λ (a : Result Asked Fault). Gives a (Err stop)) (sym behind_pick) (gives_stop (chosen_one mark kind pick source) (with_one pick) stop gives)

    module _ (one : Option Resource) (chooses : chosen_one mark kind pick source ≡ Ok one) where
      behind_one : all ≡ with_one pick one
      behind_one = behind_pick ∙ ap (λ (a : Result (Option Resource) Fault). a >>= with_one pick) chooses

      pub head_stop : (stop : Stop Fault) → Gives (new_head setting mark new_kind one head) (Err stop) → Gives all (Err stop)
      head_stop stop gives =
          subst (λ (a : Result Asked Fault). Gives a (Err stop)) (sym behind_one)
          (gives_stop (new_head setting mark new_kind one head) (λ (head : set.Head). Ok (asked_for kind pick (Some head))) stop gives)

      pub asked_so : (new : set.Head) (asked : Asked) → new_head setting mark new_kind one head ≡ Ok new → asked ≡ asked_for kind pick (Some new) → all ≡ Ok asked
      asked_so new asked heads is =
          behind_one ∙ ap (λ (a : Result set.Head Fault). a >>= λ head. Ok (asked_for kind pick (Some head))) heads ∙ ap (λ (a : Asked). Ok a) (sym is)
