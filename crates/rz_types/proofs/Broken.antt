-- The first fault of a body, in the words of its steps.
use Rattle.std.proofs.Common.{◌≡◌, List, [], ◌∷◌, ◌++◌, map, Option, Some, None, refl, ap, ◌∙◌, inl, inr}
use Rattle.std.specs.Prelude.{◌↔◌, ◌⊎◌}
use Rattle.rz_core.specs.Lists.{first_of, or_else}
use Rattle.rz_core.proofs.Lists.{or_else_none}
use Rattle.rz_types_fields.specs.Field.{PlainBody}
use Rattle.rz_types.specs.Rules.{broken, broken_at, unknown_at, BreaksFirst, BreaksNone, IsFirstBroken, KeepAll}
use Rattle.rz_types.specs.Walk.{walk, Step}
use Rattle.rz_types.specs.declared.rules.TypeFault.{TypeFault}

module _ (rule : Step → Option TypeFault) where
  first_or : (x : Step) (xs : List Step) (fault : TypeFault) (own : Option TypeFault) → rule x ≡ own → or_else own (first_of (map rule xs)) ≡ Some fault
      → (first_of (map rule xs) ≡ Some fault → BreaksFirst rule xs fault) → BreaksFirst rule (x ∷ xs) fault
  first_or x xs fault None keeps is later =
      let there = later is in record {
        front = x ∷ there.front;
        step = there.step;
        behind = there.behind;
        whole = ap (λ (l : List Step). x ∷ l) there.whole;
        kept = (keeps, there.kept);
        breaks = there.breaks;
      }
  first_or x xs fault (Some own) breaks is later = record { front = []; step = x; behind = xs; whole = refl; kept = tt; breaks = breaks ∙ is }

  pub first_there : (xs : List Step) (fault : TypeFault) → first_of (map rule xs) ≡ Some fault → BreaksFirst rule xs fault
  first_there [] fault is = absurd cc
  first_there (x ∷ xs) fault is = first_or x xs fault (rule x) refl is (λ later. first_there xs fault later)

  first_at : (front : List Step) (step : Step) (behind : List Step) (fault : TypeFault) → KeepAll rule front → rule step ≡ Some fault
      → first_of (map rule (front ++ step ∷ behind)) ≡ Some fault
  first_at [] step behind fault kept breaks = ap (λ (o : Option TypeFault). or_else o (first_of (map rule behind))) breaks
  first_at (x ∷ front) step behind fault kept breaks =
      ap (λ (o : Option TypeFault). or_else o (first_of (map rule (front ++ step ∷ behind)))) kept.0 ∙ first_at front step behind fault kept.1 breaks

  pub first_back : (xs : List Step) (fault : TypeFault) → BreaksFirst rule xs fault → first_of (map rule xs) ≡ Some fault
  first_back xs fault first =
      ap (λ (l : List Step). first_of (map rule l)) first.whole ∙ first_at first.front first.step first.behind fault first.kept first.breaks

  pub none_there : (xs : List Step) → first_of (map rule xs) ≡ None → KeepAll rule xs
  none_there [] is = tt
  none_there (x ∷ xs) is = let each = or_else_none (rule x) (first_of (map rule xs)) is in (each.0, none_there xs each.1)

  pub none_back : (xs : List Step) → KeepAll rule xs → first_of (map rule xs) ≡ None
  none_back [] all = refl
  none_back (x ∷ xs) all = ap (λ (o : Option TypeFault). or_else o (first_of (map rule xs))) all.0 ∙ none_back xs all.1

-- The two rounds of rules.

either : (one other : Option TypeFault) (fault : TypeFault) → or_else one other ≡ Some fault → (one ≡ Some fault) ⊎ ((one ≡ None) × (other ≡ Some fault))
either None other fault is = inr (refl, is)
either (Some own) other fault is = inl is

later : (one other : Option TypeFault) (fault : TypeFault) → one ≡ None → other ≡ Some fault → or_else one other ≡ Some fault
later one other fault none is = ap (λ (o : Option TypeFault). or_else o other) none ∙ is

earlier : (one other : Option TypeFault) (fault : TypeFault) → one ≡ Some fault → or_else one other ≡ Some fault
earlier one other fault is = ap (λ (o : Option TypeFault). or_else o other) is

found : (body : PlainBody) (fault : TypeFault) → broken body ≡ Some fault → IsFirstBroken body fault
found body fault is =
    elim (either (first_of (map broken_at (walk body))) (first_of (map unknown_at (walk body))) fault is) [
      | inl broken ↦ inl (first_there broken_at (walk body) fault broken)
      | inr unknown ↦ inr (none_there broken_at (walk body) unknown.0, first_there unknown_at (walk body) fault unknown.1)
    ]

first : (body : PlainBody) (fault : TypeFault) → IsFirstBroken body fault → broken body ≡ Some fault
first body fault (inl broken) = earlier _ (first_of (map unknown_at (walk body))) fault (first_back broken_at (walk body) fault broken)
first body fault (inr unknown) =
    later (first_of (map broken_at (walk body))) _ fault (none_back broken_at (walk body) unknown.0) (first_back unknown_at (walk body) fault unknown.1)

pub broken_is : (body : PlainBody) (fault : TypeFault) → (broken body ≡ Some fault) ↔ IsFirstBroken body fault
broken_is body fault = (found body fault, first body fault)

pub broken_none : (body : PlainBody) → (broken body ≡ None) ↔ BreaksNone body
broken_none body = (
  (λ is.
      let each = or_else_none (first_of (map broken_at (walk body))) (first_of (map unknown_at (walk body))) is in
      (none_there broken_at (walk body) each.0, none_there unknown_at (walk body) each.1)),
  (λ all.
      ap (λ (o : Option TypeFault). or_else o (first_of (map unknown_at (walk body)))) (none_back broken_at (walk body) all.0)
      ∙ none_back unknown_at (walk body) all.1),
)
