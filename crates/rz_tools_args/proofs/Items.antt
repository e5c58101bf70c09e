-- What stands at the front of words.
use Rattle.std.proofs.Common.{◌≡◌, ℕ, true, false, List, [], ◌∷◌, ◌++◌, Option, Some, None, refl, sym, ap, subst, ◌∙◌, arith}
use Rattle.rz_core.proofs.EveryCut.{head, tail}
use Rattle.rz_tools_args.specs.Command.{is_place, place_item, switch_item, value_item, AreItems, IsValue, Item, Value}
use Rattle.rz_tools_args.specs.Command as command
use Rattle.rz_tools_args.specs.Held.{BeginsWith, IsStuck}
use Rattle.rz_tools_args.specs.Syntax.{named, sort_of, Syntax}
use Rattle.rz_tools_args.specs.declared.flag.Flag.{Flag}
use Rattle.rz_tools_args.specs.declared.flag.Switch.{Switch}
use Rattle.rz_tools_args.proofs.Values.{good_value, IsCutBack}

-- The item at the front, where the first word stands outside no option and is no option without a value.

module _ (syntax : Syntax) where
  record Valued (first : List ℕ) (rest : List (List ℕ)) : Type 0 where
    spelled : List ℕ
    more : List (List ℕ)
    flag : Flag
    value : Value
    are : rest ≡ spelled ∷ more
    is : named syntax.flags first ≡ Some flag
    says : IsValue (sort_of flag) spelled value

  value_at : (first : List ℕ) (rest : List (List ℕ)) → is_place first ≡ false → named syntax.switches first ≡ None → (one : Item) → BeginsWith syntax (first ∷ rest) one
      → Valued first rest
  value_at first rest fails other one (front, behind, eq, place_item word is holds same) =
      let first_is : first ≡ word = head first word rest behind (eq ∙ ap (λ (ws : List (List ℕ)). ws ++ behind) is) in
      let also : is_place first ≡ true = ap is_place first_is ∙ holds in absurd cc
  value_at first rest fails other one (front, behind, eq, switch_item word switch is named_so same) =
      let first_is : first ≡ word = head first word rest behind (eq ∙ ap (λ (ws : List (List ℕ)). ws ++ behind) is) in
      let found : ◌≡◌ {A = Option Switch} None (Some switch) = sym other ∙ ap (named syntax.switches) first_is ∙ named_so in absurd (cc found)
  value_at first rest fails other one (front, behind, eq, value_item word spelled flag value is named_so says same) =
      let full : first ∷ rest ≡ word ∷ spelled ∷ behind = eq ∙ ap (λ (ws : List (List ℕ)). ws ++ behind) is in
      record {
        spelled = spelled;
        more = behind;
        flag = flag;
        value = value;
        are = tail first word rest (spelled ∷ behind) full;
        is = ap (named syntax.flags) (head first word rest (spelled ∷ behind) full) ∙ named_so;
        says = says;
      }

  -- the value is the one that stands after, and the option is the one that the first word is
  value_is : (first spelled : List ℕ) (rest : List (List ℕ)) (flag : Flag) → named syntax.flags first ≡ Some flag → (v : Valued first (spelled ∷ rest))
      → IsValue (sort_of flag) spelled v.value
  value_is first spelled rest flag named_so v =
      subst (λ (w : List ℕ). IsValue (sort_of flag) w v.value) (sym (head spelled v.spelled rest v.more v.are))
      (subst (λ (f : Flag). IsValue (sort_of f) v.spelled v.value) (same (sym v.is ∙ named_so)) v.says)
    where
      same : ◌≡◌ {A = Option Flag} (Some v.flag) (Some flag) → v.flag ≡ flag
      same is = cc is

  -- Words at whose front no item stands.

  pub stuck_unknown : (first : List ℕ) (rest : List (List ℕ)) → is_place first ≡ false → named syntax.switches first ≡ None → named syntax.flags first ≡ None
      → IsStuck syntax (first ∷ rest) 0
  stuck_unknown first rest no_place no_switch none = record {
    none = λ one begins. never rest one begins;
    within = omega arith;
    more = [];
    others = [];
    goes_on = refl;
    no_place = refl;
    longest = λ within after one begins. never after one begins;
  }
    where
      never : (after : List (List ℕ)) (one : Item) → BeginsWith syntax (first ∷ after) one → ⊥
      never after one begins =
          let v = value_at first after no_place no_switch one begins in
          let found : ◌≡◌ {A = Option Flag} None (Some v.flag) = sym none ∙ v.is in cc found

  module _ (back : IsCutBack)
      (first : List ℕ) (flag : Flag) (no_place : is_place first ≡ false) (no_switch : named syntax.switches first ≡ None) (named_so : named syntax.flags first ≡ Some flag) where
    goes : let good = good_value back (sort_of flag) in AreItems syntax (first ∷ good.0 ∷ []) (command.Valued flag good.1 ∷ [])
    goes =
        let good = good_value back (sort_of flag) in
        (first ∷ good.0 ∷ [], [], refl, value_item first good.0 flag good.1 refl named_so good.2 refl, refl)

    pub stuck_missing : IsStuck syntax (first ∷ []) 1
    stuck_missing = record {
      none = λ one begins. missing (value_at first [] no_place no_switch one begins);
      within = omega arith;
      more = (good_value back (sort_of flag)).0 ∷ [];
      others = command.Valued flag (good_value back (sort_of flag)).1 ∷ [];
      goes_on = goes;
      no_place = refl;
      longest = λ within after one begins. absurd (omega (arith, within));
    }
      where
        missing : Valued first [] → ⊥
        missing v = let are = v.are in cc

    pub stuck_value : (spelled : List ℕ) (rest : List (List ℕ)) → ((value : Value) → IsValue (sort_of flag) spelled value → ⊥)
        → IsStuck syntax (first ∷ spelled ∷ rest) 1
    stuck_value spelled rest none = record {
      none = λ one begins. bad rest one begins;
      within = omega arith;
      more = (good_value back (sort_of flag)).0 ∷ [];
      others = command.Valued flag (good_value back (sort_of flag)).1 ∷ [];
      goes_on = goes;
      no_place = refl;
      longest = λ within after one begins. bad after one begins;
    }
      where
        bad : (after : List (List ℕ)) (one : Item) → BeginsWith syntax (first ∷ spelled ∷ after) one → ⊥
        bad after one begins =
            let v = value_at first (spelled ∷ after) no_place no_switch one begins in none v.value (value_is first spelled after flag named_so v)
