-- The names of an expression that are solved where a number is read.
use Rattle.std.proofs.Common.{◌≡◌, ◌⊎◌, inl, inr, ℤ, false, ◌||◌, [], ◌∷◌, Option, Some, None, refl, sym, ap, ◌∙◌, subst}
use Rattle.std.specs.List.{list_any}
use Rattle.rz_expr.specs.Environment.{count_key, place_key, Environment, IsPartOf, Key}
use Rattle.rz_expr.specs.Term.{BitsAt, Constant, FactOf, Indexed, Named, OfOne, OfTwo, RowNumber, RowsOf, Term}
use Rattle.rz_types_fields.specs.Passed.{Names}
use Rattle.rz_types_fields.specs.Solve.{has_key, is_same_key}
use Rattle.rz_types_fields.proofs.KeysIn.{has_one, has_two}
use Rattle.rz_types_fields.proofs.SameNames.{key_is, key_itself}
use Rattle.rz_unlay_pieces.specs.Pieces.{also, solve_all, solve_key}
use Rattle.rz_unlay.proofs.ReadsTests.{and_then, by_case, if_false, if_true, neither, not_both, some_same}
use Rattle.rz_unlay.proofs.Told.{also_keeps, part_of_part, same_part}

also_other : (key other : Key) (value : ℤ) (names : Environment) → is_same_key other key ≡ false → (also key value names).give other ≡ names.give other
also_other key other value names differ =
    by_case (is_same_key key other)
    (λ same. not_both (is_same_key other key) (ap (λ (k : Key). is_same_key k key) (sym (key_is key other same)) ∙ key_itself key) differ)
    (λ not_same. if_false (is_same_key key other) (Some value) (names.give other) not_same)

-- a name had no value, and was solved to it with a part of what is known now
pub record WasSolved (near : Environment → Environment) (solved : Key → Environment → Option ℤ) (names more : Environment) (key : Key) (value : ℤ) : Type 0 where
  pub mid : Environment
  pub behind : IsPartOf names mid
  pub before : IsPartOf mid more
  pub absent : (near mid).give key ≡ None
  pub is : solved key mid ≡ Some value

-- what is known after names that are solved
pub record Solved (near : Environment → Environment) (solved : Key → Environment → Option ℤ) (has : Names) (names more : Environment) : Type 0 where
  pub kept : IsPartOf names more
  pub same : (key : Key) → has key ≡ false → more.give key ≡ names.give key
  pub had : (key : Key) (value : ℤ) → more.give key ≡ Some value → (names.give key ≡ Some value) ⊎ WasSolved near solved names more key value

module _ (near : Environment → Environment) (solved : Key → Environment → Option ℤ) where
  none_solved : (has : Names) (names more : Environment) → Some names ≡ Some more → Solved near solved has names more
  none_solved has names more is = subst (Solved near solved has names) (some_same names more is)
      (record { kept = same_part names; same = λ key none. refl; had = λ key value found. inl found })

  module _ (keeps : (names : Environment) (key : Key) → (near names).give key ≡ None → names.give key ≡ None) where
    key_solved : (key : Key) (names more : Environment) → solve_key solved key ((near names).give key) names ≡ Some more → Solved near solved (λ other. is_same_key other key) names more
    key_solved key names more = by ((near names).give key) refl
      where
        by : (o : Option ℤ) → (near names).give key ≡ o → solve_key solved key o names ≡ Some more → Solved near solved (λ other. is_same_key other key) names more
        by (Some v) so is = none_solved (λ other. is_same_key other key) names more is
        by None so is =
            let it = and_then (λ value. Some (also key value names)) (solved key names) more is in
            let v = it.0 in
            let kept = also_keeps key v names (keeps names key so) in
            subst (Solved near solved (λ other. is_same_key other key) names) (some_same (also key v names) more it.2) (record {
              kept = kept;
              same = λ other none. also_other key other v names none;
              had = λ other value found. by_case (is_same_key key other)
                  (λ same.
                  let one = key_is key other same in
                  inr (record {
                    mid = names;
                    behind = same_part names;
                    before = kept;
                    absent = sym (ap (near names).give one) ∙ so;
                    is = sym (ap (λ (k : Key). solved k names) one) ∙ it.1 ∙ sym (if_true (is_same_key key other) (Some v) (names.give other) same) ∙ found;
                  }))
                  (λ differ. inl (sym (if_false (is_same_key key other) (Some v) (names.give other) differ) ∙ found));
            })

    both_solved : (one other : Names) (names mid more : Environment) → Solved near solved one names mid → Solved near solved other mid more → Solved near solved (λ key. one key || other key) names more
    both_solved one other names mid more first next = record {
      kept = part_of_part names mid more first.kept next.kept;
      same = λ key none. let each = neither (one key) (other key) none in next.same key each.1 ∙ first.same key each.0;
      had = λ key value found. behind key value (next.had key value found);
    }
      where
        earlier : (key : Key) (value : ℤ) → (names.give key ≡ Some value) ⊎ WasSolved near solved names mid key value → (names.give key ≡ Some value) ⊎ WasSolved near solved names more key value
        earlier key value (inl was) = inl was
        earlier key value (inr it) = inr (record { mid = it.mid; behind = it.behind; before = part_of_part it.mid mid more it.before next.kept; absent = it.absent; is = it.is })

        behind : (key : Key) (value : ℤ) → (mid.give key ≡ Some value) ⊎ WasSolved near solved mid more key value → (names.give key ≡ Some value) ⊎ WasSolved near solved names more key value
        behind key value (inl was) = earlier key value (first.had key value was)
        behind key value (inr it) = inr (record { mid = it.mid; behind = part_of_part names mid it.mid first.kept it.behind; before = it.before; absent = it.absent; is = it.is })

    -- as many names or more
    wider : (has wide : Names) (names more : Environment) → ((key : Key) → wide key ≡ false → has key ≡ false) → Solved near solved has names more → Solved near solved wide names more
    wider has wide names more leads it = record { kept = it.kept; same = λ key none. it.same key (leads key none); had = it.had }

    one_solved : (own : Key) (names more : Environment) → solve_key solved own ((near names).give own) names ≡ Some more → Solved near solved (λ key. list_any (is_same_key key) (own ∷ [])) names more
    one_solved own names more is = wider (λ key. is_same_key key own) (λ key. list_any (is_same_key key) (own ∷ [])) names more (λ key none. sym (has_one key own) ∙ none) (key_solved own names more is)

    pub all_solved : (term : Term) (names more : Environment) → solve_all near solved term names ≡ Some more → Solved near solved (λ key. has_key key term) names more
    all_solved (Constant number) names more is = none_solved (λ key. false) names more is
    all_solved (Named name) names more is = one_solved (place_key name) names more is
    all_solved (Indexed name index) names more is = all_solved index names more is
    all_solved (RowNumber name) names more is = none_solved (λ key. false) names more is
    all_solved (RowsOf name) names more is = one_solved (count_key name) names more is
    all_solved (BitsAt name start width) names more is = none_solved (λ key. has_key key (BitsAt name start width)) names more is
    all_solved (FactOf which) names more is = none_solved (λ key. false) names more is
    all_solved (OfOne op operand) names more is = all_solved operand names more is
    all_solved (OfTwo op left right) names more is =
        let one = and_then (solve_all near solved right) (solve_all near solved left names) more is in
        wider (λ key. has_key key left || has_key key right) (λ key. has_key key (OfTwo op left right)) names more (λ key none. sym (has_two key op left right) ∙ none)
        (both_solved (λ key. has_key key left) (λ key. has_key key right) names one.0 more (all_solved left names one.0 one.1) (all_solved right one.0 more one.2))
