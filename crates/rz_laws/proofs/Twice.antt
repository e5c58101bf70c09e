-- Entries for different resources, one list after the other, are both at once.
use Rattle.std.proofs.Common.{◌≡◌, Bool, true, false, List, [], ◌∷◌, ◌++◌, cond, filter, Some, refl, sym, ap, subst, ◌∙◌}
use Rattle.std.specs.Prelude.{◌||◌, if◌then◌else◌, Ok}
use Rattle.std.specs.List.{list_any}
use Rattle.std.proofs.lemmas.List.{append-nil, append_assoc}
use Rattle.std.proofs.lemmas.List.Elements.{filter-append}
use Rattle.std.proofs.lemmas.List.Folds.{list_any-append}
use Rattle.rz_catalog.proofs.Changes.{others_stay}
use Rattle.rz_catalog.proofs.Lookups.{holder_of}
use Rattle.rz_catalog.proofs.Numbered.{none_filtered}
use Rattle.rz_catalog.proofs.Pairs.{AreBy}
use Rattle.rz_catalog.proofs.Stocks.{every_stock, one_row, OneTree, TreesAreDecided}
use Rattle.rz_catalog.specs.Apply.{entry_fault, fault_for, first_refused, is_entry_for, same_leaf, Applied, IsPut}
use Rattle.rz_catalog.specs.Became.{Became, BecameEach}
use Rattle.rz_catalog.specs.Stock.{AreStocked, HasTree, Stocked}
use Rattle.rz_catalog_text.specs.declared.entry.Entry.{Entry}
use Rattle.rz_laws.proofs.Keys.{no_leaf, none_for, others_none}
use Rattle.rz_laws.proofs.Parts.{first_append, made_applied, made_of, Restrings}
use Rattle.rz_laws.specs.Apart.{same_resource, AreApart}
use Rattle.rz_core.proofs.EveryCut.{one_answer}
use Rattle.rz_core.proofs.Lists.{or_else_none}
use Rattle.rz_core.proofs.Once.{ok, same_ok}
use Rattle.rz_core.proofs.Tests.{by_test}
use Rattle.rz_core.specs.Decided.{Decided}
use Rattle.rz_core.specs.Lists.{first_in, or_else}
use Rattle.rz_core.specs.declared.fault.Fault.{Fault}
use Rattle.rz_core.specs.declared.moment.Moment.{Moment}
use Rattle.rz_core.specs.declared.resource.Resource.{Resource}
use Rattle.rz_types_table.specs.Table.{Declaration}

module _ (types : List Declaration) (moment : Moment) (one : OneTree) (entries others : List Entry) (apart : AreApart entries others) where
  -- What became of a stock.

  -- entries are for the same resources as before, and a resource without one stays with its tree
  abbrev Stays : Stocked → Stocked → Type 0
  Stays s y = ((e : Entry) → is_entry_for y.resource e ≡ is_entry_for s.resource e) × (list_any (is_entry_for s.resource) entries ≡ false → y ≡ s)

  stay_one : (r m : Resource) (s y : Stocked) → Became types moment entries r m → s.resource ≡ r → Decided (HasTree types moment r) s.tree
      → y.resource ≡ m → Decided (HasTree types moment m) y.tree → Stays s y
  stay_one r m s y became at known there found = (
    λ e. ap (λ (z : Resource). is_entry_for z e) (there ∙ became.same) ∙ ap (λ (z : Resource). is_entry_for z e) (sym at),
    λ none.
        let same : m ≡ r = became.others (ap (λ (z : Resource). list_any (is_entry_for z) entries) (sym at) ∙ none) in
        let tree : y.tree ≡ s.tree =
        one_answer (HasTree types moment r) (one_row types moment one r) y.tree s.tree (subst (λ (z : Resource). Decided (HasTree types moment z) y.tree) same found) known in
        let resource : y.resource ≡ s.resource = there ∙ same ∙ sym at in
        λ i. record { resource = resource i; tree = tree i },
  )

  stay_each : (list middle : List Resource) (stock after : List Stocked) → BecameEach types moment entries list middle → AreStocked types moment list stock
      → AreStocked types moment middle after → AreBy Stays stock after
  stay_each [] [] [] [] became are now = tt
  stay_each [] [] [] (y ∷ after) became are now = absurd now
  stay_each [] [] (s ∷ stock) after became are now = absurd are
  stay_each [] (m ∷ middle) stock after became are now = absurd became
  stay_each (r ∷ list) [] stock after became are now = absurd became
  stay_each (r ∷ list) (m ∷ middle) [] after became are now = absurd are
  stay_each (r ∷ list) (m ∷ middle) (s ∷ stock) [] became are now = absurd now
  stay_each (r ∷ list) (m ∷ middle) (s ∷ stock) (y ∷ after) became are now =
      (stay_one r m s y became.0 are.0 are.1 now.0 now.1, stay_each list middle stock after became.1 are.2 now.2)

  -- Refusals.

  same_holder : (e : Entry) → list_any (same_resource e) entries ≡ false → (stock after : List Stocked) → AreBy Stays stock after → holder_of after e ≡ holder_of stock e
  same_holder e far [] [] stay = refl
  same_holder e far [] (y ∷ after) stay = absurd stay
  same_holder e far (s ∷ stock) [] stay = absurd stay
  same_holder e far (s ∷ stock) (y ∷ after) stay =
      by_test (holder_of (y ∷ after) e ≡ holder_of (s ∷ stock) e) (is_entry_for s.resource e)
      (λ is.
      ap (λ (b : Bool). if b then Some y else holder_of after e) (stay.0.0 e ∙ is)
      ∙ ap (λ (z : Stocked). Some z) (stay.0.1 (none_for s.resource e entries is far))
      ∙ sym (ap (λ (b : Bool). if b then Some s else holder_of stock e) is))
      (λ other.
      ap (λ (b : Bool). if b then Some y else holder_of after e) (stay.0.0 e ∙ other)
      ∙ same_holder e far stock after stay.1
      ∙ sym (ap (λ (b : Bool). if b then Some s else holder_of stock e) other))

  same_twice : (e : Entry) (before : List Entry) → list_any (same_resource e) entries ≡ false → list_any (same_leaf e) before ≡ list_any (same_leaf e) (entries ++ before)
  same_twice e before far = sym (list_any-append (same_leaf e) entries before ∙ ap (λ (b : Bool). b || list_any (same_leaf e) before) (no_leaf e entries far))

  module _ (over : Bool) (stock after : List Stocked) (stay : AreBy Stays stock after) where
    same_faults : (before es : List Entry) → AreApart entries es → first_in (entry_fault over after) before es ≡ first_in (entry_fault over stock) (entries ++ before) es
    same_faults before [] far = refl
    same_faults before (e ∷ es) far =
        let behind = same_faults (before ++ e ∷ []) es far.1 ∙ ap (λ (l : List Entry). first_in (entry_fault over stock) l es) (sym (append_assoc entries before (e ∷ []))) in
        λ i. or_else (fault_for over (same_holder e far.0 stock after stay i) (same_twice e before far.0 i) e) (behind i)

    both_refused : first_refused over stock (entries ++ others) ≡ or_else (first_refused over stock entries) (first_refused over after others)
    both_refused =
        let behind = ap (λ (l : List Entry). first_in (entry_fault over stock) l others) (sym (append-nil entries)) ∙ sym (same_faults [] others apart) in
        first_append (entry_fault over stock) [] entries others ∙ ap (or_else (first_refused over stock entries)) behind

  -- Entries of one resource.

  first_only : (r : Resource) → list_any (is_entry_for r) entries ≡ true → filter (is_entry_for r) (entries ++ others) ≡ filter (is_entry_for r) entries
  first_only r some =
      filter-append (is_entry_for r) entries others
      ∙ ap (λ (l : List Entry). filter (is_entry_for r) entries ++ l) (none_filtered (is_entry_for r) others (others_none r entries others apart some))
      ∙ append-nil (filter (is_entry_for r) entries)

  last_only : (r : Resource) → list_any (is_entry_for r) entries ≡ false → filter (is_entry_for r) (entries ++ others) ≡ filter (is_entry_for r) others
  last_only r none = filter-append (is_entry_for r) entries others ∙ ap (λ (l : List Entry). l ++ filter (is_entry_for r) others) (none_filtered (is_entry_for r) entries none)

  none_then : (s y : Stocked) → Stays s y → list_any (is_entry_for s.resource) entries ≡ true → filter (is_entry_for y.resource) others ≡ []
  none_then s y stay some =
      none_filtered (is_entry_for y.resource) others ((λ i. list_any (λ e. stay.0 e i) others) ∙ others_none s.resource entries others apart some)

  -- One after the other, so at once.

  put_both : (s y : Stocked) (m n : Resource) → Stays s y → y.resource ≡ m → Restrings types moment entries s m → Restrings types moment others y n
      → Restrings types moment (entries ++ others) s n
  put_both s y m n stay at first second =
      by_test (Restrings types moment (entries ++ others) s n) (list_any (is_entry_for s.resource) entries)
      (λ some.
      let kept = subst (λ (l : List Entry). IsPut types moment y.resource y.tree l (Ok n)) (none_then s y stay some) second in
      let same : n ≡ m = same_ok {F = Fault} n y.resource kept ∙ at in
      subst (λ (l : List Entry). IsPut types moment s.resource s.tree l (Ok n)) (sym (first_only s.resource some))
      (subst (λ (z : Resource). IsPut types moment s.resource s.tree (filter (is_entry_for s.resource) entries) (Ok z)) (sym same) first))
      (λ none.
      subst (λ (l : List Entry). IsPut types moment s.resource s.tree l (Ok n)) (sym (last_only s.resource none))
      (subst (λ (z : Stocked). Restrings types moment others z n) (stay.1 none) second))

  each_both : (stock after : List Stocked) (middle new : List Resource) → AreBy Stays stock after → AreStocked types moment middle after
      → AreBy (Restrings types moment entries) stock middle → AreBy (Restrings types moment others) after new → AreBy (Restrings types moment (entries ++ others)) stock new
  each_both [] [] [] [] stay are first second = tt
  each_both [] [] [] (n ∷ new) stay are first second = absurd second
  each_both [] [] (m ∷ middle) new stay are first second = absurd are
  each_both [] (y ∷ after) middle new stay are first second = absurd stay
  each_both (s ∷ stock) [] middle new stay are first second = absurd stay
  each_both (s ∷ stock) (y ∷ after) [] new stay are first second = absurd are
  each_both (s ∷ stock) (y ∷ after) (m ∷ middle) [] stay are first second = absurd second
  each_both (s ∷ stock) (y ∷ after) (m ∷ middle) (n ∷ new) stay are first second =
      (put_both s y m n stay.0 are.0 first.0 second.0, each_both stock after middle new stay.1 are.2 first.1 second.1)

  pub at_once : (over : Bool) (list middle new : List Resource) → Applied types moment over list entries (Ok middle) → Applied types moment over middle others (Ok new)
      → Applied types moment over list (entries ++ others) (Ok new)
  at_once over list middle new first second =
      let a = made_of types moment over list entries middle first in
      let b = made_of types moment over middle others new second in
      let stay = stay_each list middle a.stock b.stock (others_stay types moment entries one over list middle first) a.stocked b.stocked in
      made_applied types moment over list (entries ++ others) new (record {
        stock = a.stock;
        stocked = a.stocked;
        none = both_refused over a.stock b.stock stay ∙ (λ i. or_else (a.none i) (b.none i));
        each = each_both a.stock b.stock middle new stay b.stocked a.each b.each;
      })

  -- At once, so one after the other.

  -- the list between: what the first entries change is as it is in the end, the rest as it was
  abbrev middle_of : List Stocked → List Resource → List Resource
  middle_of [] new = []
  middle_of (s ∷ stock) [] = []
  middle_of (s ∷ stock) (n ∷ new) = cond (list_any (is_entry_for s.resource) entries) n s.resource ∷ middle_of stock new

  put_first : (s : Stocked) (n : Resource) → Restrings types moment (entries ++ others) s n
      → Restrings types moment entries s (cond (list_any (is_entry_for s.resource) entries) n s.resource)
  put_first s n put =
      by_test (Restrings types moment entries s (cond (list_any (is_entry_for s.resource) entries) n s.resource)) (list_any (is_entry_for s.resource) entries)
      (λ some.
      subst (λ (b : Bool). Restrings types moment entries s (cond b n s.resource)) (sym some)
      (subst (λ (l : List Entry). IsPut types moment s.resource s.tree l (Ok n)) (first_only s.resource some) put))
      (λ none.
      subst (λ (b : Bool). Restrings types moment entries s (cond b n s.resource)) (sym none)
      (subst (λ (l : List Entry). IsPut types moment s.resource s.tree l (Ok s.resource)) (sym (none_filtered (is_entry_for s.resource) entries none)) refl))

  each_first : (stock : List Stocked) (new : List Resource) → AreBy (Restrings types moment (entries ++ others)) stock new
      → AreBy (Restrings types moment entries) stock (middle_of stock new)
  each_first [] [] put = tt
  each_first [] (n ∷ new) put = absurd put
  each_first (s ∷ stock) [] put = absurd put
  each_first (s ∷ stock) (n ∷ new) put = (put_first s n put.0, each_first stock new put.1)

  put_last : (s y : Stocked) (n : Resource) → Stays s y → y.resource ≡ cond (list_any (is_entry_for s.resource) entries) n s.resource
      → Restrings types moment (entries ++ others) s n → Restrings types moment others y n
  put_last s y n stay at put =
      by_test (Restrings types moment others y n) (list_any (is_entry_for s.resource) entries)
      (λ some.
      let there : y.resource ≡ n = at ∙ ap (λ (b : Bool). cond b n s.resource) some in
      subst (λ (l : List Entry). IsPut types moment y.resource y.tree l (Ok n)) (sym (none_then s y stay some)) (ap (ok {F = Fault}) (sym there)))
      (λ none.
      subst (λ (z : Stocked). Restrings types moment others z n) (sym (stay.1 none))
      (subst (λ (l : List Entry). IsPut types moment s.resource s.tree l (Ok n)) (last_only s.resource none) put))

  each_last : (stock after : List Stocked) (new : List Resource) → AreBy Stays stock after → AreStocked types moment (middle_of stock new) after
      → AreBy (Restrings types moment (entries ++ others)) stock new → AreBy (Restrings types moment others) after new
  each_last [] [] [] stay are put = tt
  each_last [] [] (n ∷ new) stay are put = absurd put
  each_last [] (y ∷ after) new stay are put = absurd stay
  each_last (s ∷ stock) [] new stay are put = absurd stay
  each_last (s ∷ stock) (y ∷ after) [] stay are put = absurd put
  each_last (s ∷ stock) (y ∷ after) (n ∷ new) stay are put = (put_last s y n stay.0 are.0 put.0, each_last stock after new stay.1 are.2 put.1)

  pub in_turn : TreesAreDecided → (over : Bool) (list new : List Resource) → Applied types moment over list (entries ++ others) (Ok new)
      → (middle : List Resource) × Applied types moment over list entries (Ok middle) × Applied types moment over middle others (Ok new)
  in_turn decided over list new it =
      let a = made_of types moment over list (entries ++ others) new it in
      let middle = middle_of a.stock new in
      let refused = or_else_none (first_refused over a.stock entries) (first_in (entry_fault over a.stock) entries others)
      (sym (first_append (entry_fault over a.stock) [] entries others) ∙ a.none) in
      let first : Applied types moment over list entries (Ok middle) =
      made_applied types moment over list entries middle (record { stock = a.stock; stocked = a.stocked; none = refused.0; each = each_first a.stock new a.each }) in
      let after = every_stock types moment decided middle in
      let stay = stay_each list middle a.stock after.0 (others_stay types moment entries one over list middle first) a.stocked after.1 in
      let later = or_else_none (first_refused over a.stock entries) (first_refused over after.0 others) (sym (both_refused over a.stock after.0 stay) ∙ a.none) in (
        middle,
        first,
        made_applied types moment over middle others new (record {
          stock = after.0;
          stocked = after.1;
          none = later.1;
          each = each_last a.stock after.0 new stay after.1 a.each;
        }),
      )
