-- A name has a value, unless another was known: a label its place, and an array the number of its rows.
use Rattle.std.proofs.Common.{◌≡◌, ◌⊎◌, inl, inr, ℤ, Bool, true, false, ◌||◌, Option, Some, None, sym, ap, ◌∙◌, subst}
use Rattle.std.proofs.lemmas.Bool.Decides.{Decides-int_eq}
use Rattle.rz_expr.specs.Environment.{Environment, IsPartOf, Key}
use Rattle.rz_types_fields.specs.Passed.{is_held, Passed}
use Rattle.rz_types_fields.specs.Solve.{is_same_key}
use Rattle.rz_types_fields.proofs.SameNames.{key_is}
use Rattle.rz_unlay_pieces.specs.Pieces.{agrees, also, claim}
use Rattle.rz_unlay.proofs.Asked.{is_asked}
use Rattle.rz_unlay.proofs.ReadsTests.{by_case, either_of, if_false, if_some, if_true, left_true, right_true}
use Rattle.rz_unlay.proofs.SpelledNames.{Knows}

-- what is known after a name that has its value
pub record Claimed (key : Key) (value : ℤ) (names more : Environment) : Type 0 where
  pub kept : IsPartOf names more
  pub same : (other : Key) → is_same_key key other ≡ false → more.give other ≡ names.give other
  pub has : (other : Key) → is_same_key key other ≡ true → more.give other ≡ Some value
  pub only : (other : Key) (v : ℤ) → more.give other ≡ Some v → (is_same_key key other ≡ true) ⊎ (names.give other ≡ Some v)

agrees_with : (known : Option ℤ) (value other : ℤ) → agrees known value ≡ true → known ≡ Some other → Some value ≡ Some other
agrees_with None value other agree is = absurd cc
agrees_with (Some x) value other agree is = ap (λ (v : ℤ). Some v) (sym ((Decides-int_eq x value).0 agree)) ∙ is

pub claim_came : (key : Key) (value : ℤ) (names more : Environment) → claim key value names ≡ Some more → Claimed key value names more
claim_came key value names more is =
    let it = if_some (agrees (names.give key) value) (also key value names) more is in
    let has : (other : Key) → is_same_key key other ≡ true → (also key value names).give other ≡ Some value =
    (λ other one. if_true (is_same_key key other) (Some value) (names.give other) one) in
    let same : (other : Key) → is_same_key key other ≡ false → (also key value names).give other ≡ names.give other =
    (λ other none. if_false (is_same_key key other) (Some value) (names.give other) none) in
    subst (Claimed key value names) it.1 (record {
      kept = record {
        give = λ other v found. by_case (is_same_key key other)
            (λ one. has other one ∙ agrees_with (names.give key) value v it.0 (ap names.give (key_is key other one) ∙ found))
            (λ none. same other none ∙ found);
      };
      same = same;
      has = has;
      only = λ other v found. by_case (is_same_key key other) (λ one. inl one) (λ none. inr (sym (same other none) ∙ found));
    })

-- its name is met
pub claimed_knows : (key : Key) (value : ℤ) (passed : Passed) (names more : Environment) → Knows (is_held passed) names → Claimed key value names more
    → Knows (λ other. (is_same_key key other || passed.met other) || passed.told other) more
claimed_knows key value passed names more knows it = record { covers = covers; only = only }
  where
    covers : (other : Key) → is_asked other ≡ true → ((is_same_key key other || passed.met other) || passed.told other) ≡ true → (v : ℤ) × (more.give other ≡ Some v)
    covers other asked known = by_case (is_same_key key other)
        (λ one. (value, it.has other one))
        (λ none.
        let old = knows.covers other asked (sym (ap (λ (b : Bool). (b || passed.met other) || passed.told other) none) ∙ known) in
        (old.0, it.same other none ∙ old.1))

    only : (other : Key) (v : ℤ) → is_asked other ≡ true → more.give other ≡ Some v → ((is_same_key key other || passed.met other) || passed.told other) ≡ true
    only other v asked found = by (it.only other v found)
      where
        by : (is_same_key key other ≡ true) ⊎ (names.give other ≡ Some v) → ((is_same_key key other || passed.met other) || passed.told other) ≡ true
        by (inl one) = left_true (is_same_key key other || passed.met other) (passed.told other) (left_true (is_same_key key other) (passed.met other) one)
        by (inr was) = either_of (passed.met other) (passed.told other)
            (λ met. left_true (is_same_key key other || passed.met other) (passed.told other) (right_true (is_same_key key other) (passed.met other) met))
            (λ told. right_true (is_same_key key other || passed.met other) (passed.told other) told)
            (knows.only other v asked was)
