-- What entries leave of resources, and where their faults stand.
use Rattle.std.proofs.Common.{◌≡◌, ◌<◌, ℕ, Bool, true, false, not, if◌then◌else◌, List, [], ◌∷◌, ◌++◌, length, map, filter, Option, Some, None, Ok, Err, inl, inr, refl, sym, ap, subst, ◌∙◌}
use Rattle.std.specs.Prelude.{◌&&◌, nat_le, option_map}
use Rattle.std.specs.List.{list_any}
use Rattle.std.specs.Option.{ok_or}
use Rattle.rz_core.proofs.Once.{ok, err, ok_or_err, same_err, same_ok}
use Rattle.rz_core.specs.Lists.{first_in, first_of, or_else}
use Rattle.rz_core.specs.Message.{IsNameable}
use Rattle.rz_core.specs.Resources.{is_protected}
use Rattle.rz_core.specs.declared.fault.Fault.{Fault}
use Rattle.rz_core.specs.declared.moment.Moment.{Moment}
use Rattle.rz_core.specs.declared.resource.Resource.{Resource}
use Rattle.rz_types_fields.specs.declared.tree.Tree.{Tree}
use Rattle.rz_types_table.specs.Table.{Declaration}
use Rattle.rz_catalog.specs.Apply.{entry_fault, fault_for, fault_of, first_refused, first_such, is_entry_for, refused_where, same_leaf, with_bytes, Applied, IsAppliedTo, IsPut, IsRestrung}
use Rattle.rz_catalog.specs.Stays.{bare}
use Rattle.rz_catalog_text.specs.Stored.{AreEntriesIn}
use Rattle.rz_catalog.specs.Stock.{texts_of, AreStocked, Stocked}
use Rattle.rz_catalog_text.specs.InOrder.{EachInOrder}
use Rattle.rz_catalog_text.specs.declared.entry.Entry.{Entry}

-- Resources.

module _ (types : List Declaration) (moment : Moment) where
  put_stays : (r : Resource) (tree : Option (List Tree)) (own : List Entry) (new : Resource) → IsPut types moment r tree own (Ok new) → bare new ≡ bare r
  put_stays r tree [] new is = ap bare (same_ok {F = Fault} new r is)
  put_stays r None (first ∷ others) new is = ap bare (same_ok {F = Fault} new r is)
  put_stays r (Some row) (first ∷ others) new (changed, texts, found, decided, is) = by found is
    where
      by : (found : Option (List ℕ)) → ok {F = Fault} new ≡ ok_or (option_map (with_bytes r) found) (fault_of 464 first) → bare new ≡ bare r
      by None is = absurd (ok_or_err new (fault_of 464 first) is)
      by (Some bytes) is = ap bare (same_ok {F = Fault} new (with_bytes r bytes) is)

  each_stays : (entries : List Entry) (stock : List Stocked) (news : List Resource) → EachInOrder (IsRestrung types moment entries) stock (Ok news)
      → map bare news ≡ map (λ s. bare s.resource) stock
  each_stays entries [] news is = ap (map bare) (same_ok {F = Fault} news [] is)
  each_stays entries (s ∷ stock) news (inl (new, put, inl (others, are, is))) =
      ap (map bare) (same_ok {F = Fault} news (new ∷ others) is)
      ∙ ap (λ (first : Resource). first ∷ map bare others) (put_stays s.resource s.tree (filter (is_entry_for s.resource) entries) new put)
      ∙ ap (λ (rest : List Resource). bare s.resource ∷ rest) (each_stays entries stock others are)
  each_stays entries (s ∷ stock) news (inl (new, put, inr (fault, bad, is))) = absurd (ok_or_err news fault is)
  each_stays entries (s ∷ stock) news (inr (fault, bad, is)) = absurd (ok_or_err news fault is)

  stock_bare : (list : List Resource) (stock : List Stocked) → AreStocked types moment list stock → map (λ s. bare s.resource) stock ≡ map bare list
  stock_bare [] [] are = refl
  stock_bare [] (s ∷ stock) are = absurd are
  stock_bare (r ∷ list) [] are = absurd are
  stock_bare (r ∷ list) (s ∷ stock) are =
      ap (λ (first : Resource). bare first ∷ map (λ (t : Stocked). bare t.resource) stock) are.0
      ∙ ap (λ (rest : List Resource). bare r ∷ rest) (stock_bare list stock are.2)

  pub stay : (over : Bool) (list new : List Resource) (entries : List Entry) → Applied types moment over list entries (Ok new) → map bare new ≡ map bare list
  stay over list new entries applied = by (first_refused over applied.stock entries) applied.is
    where
      by : (refused : Option Fault) → IsAppliedTo types moment applied.stock entries refused (Ok new) → map bare new ≡ map bare list
      by (Some fault) is = absurd (ok_or_err new fault is)
      by None is = each_stays entries applied.stock new is ∙ stock_bare list applied.stock applied.stocked

-- Faults.

module _ (files : ℕ) where
  told : (number : ℕ) (e : Entry) (fault : Fault) → fault ≡ fault_of number e → IsNameable files (fault_of number e) → IsNameable files fault
  told number e fault is nameable = subst (IsNameable files) (sym is) nameable

  some_same : (one other : Fault) → Some one ≡ Some other → one ≡ other
  some_same one other is = cc is

  none_some : (fault : Fault) → None ≡ Some fault → ⊥
  none_some fault is = cc is

  -- the first of three that there may be is one of these
  one_of : (a b c : Bool) (f g h : Fault) → IsNameable files f → IsNameable files g → IsNameable files h → (fault : Fault)
      → first_of (refused_where a f ∷ refused_where b g ∷ refused_where c h ∷ []) ≡ Some fault → IsNameable files fault
  one_of true b c f g h one two three fault is = subst (IsNameable files) (some_same f fault is) one
  one_of false true c f g h one two three fault is = subst (IsNameable files) (some_same g fault is) two
  one_of false false true f g h one two three fault is = subst (IsNameable files) (some_same h fault is) three
  one_of false false false f g h one two three fault is = absurd (none_some fault is)

  module _ (over : Bool) (stock : List Stocked) where
    entry_told : (before : List Entry) (e : Entry) (fault : Fault) → e.mark.file < files → entry_fault over stock before e ≡ Some fault → IsNameable files fault
    entry_told before e fault within is = by (first_such (λ s. is_entry_for s.resource e) stock) is
      where
        by : (found : Option Stocked) → fault_for over found (list_any (same_leaf e) before) e ≡ Some fault → IsNameable files fault
        by None is = told 462 e fault (sym (some_same (fault_of 462 e) fault is)) (record { number = refl; place = within })
        by (Some s) is =
            one_of (nat_le (length (texts_of s)) e.leaf) (not over && is_protected s.resource) (list_any (same_leaf e) before) (fault_of 462 e) (fault_of 219 e) (fault_of 463 e)
            (record { number = refl; place = within }) (record { number = refl; place = within }) (record { number = refl; place = within }) fault is

    first_told : (before entries : List Entry) (fault : Fault) → AreEntriesIn files entries → first_in (entry_fault over stock) before entries ≡ Some fault → IsNameable files fault
    first_told before [] fault all is = absurd (none_some fault is)
    first_told before (e ∷ entries) fault all is = by (entry_fault over stock before e) refl (first_told (before ++ e ∷ []) entries fault all.1) is
      where
        by : (found : Option Fault) → entry_fault over stock before e ≡ found
            → (first_in (entry_fault over stock) (before ++ e ∷ []) entries ≡ Some fault → IsNameable files fault)
            → or_else found (first_in (entry_fault over stock) (before ++ e ∷ []) entries) ≡ Some fault → IsNameable files fault
        by None none behind is = behind is
        by (Some own) same behind is = entry_told before e fault all.0 (same ∙ is)

  module _ (types : List Declaration) (moment : Moment) where
    put_told : (r : Resource) (tree : Option (List Tree)) (own : List Entry) → AreEntriesIn files own → (fault : Fault) → IsPut types moment r tree own (Err fault) → IsNameable files fault
    put_told r tree [] all fault is = absurd (ok_or_err r fault (sym is))
    put_told r None (first ∷ others) all fault is = absurd (ok_or_err r fault (sym is))
    put_told r (Some row) (first ∷ others) all fault (changed, texts, found, decided, is) = by found is
      where
        by : (found : Option (List ℕ)) → err {X = Resource} fault ≡ ok_or (option_map (with_bytes r) found) (fault_of 464 first) → IsNameable files fault
        by None is = told 464 first fault (same_err {X = Resource} fault (fault_of 464 first) is) (record { number = refl; place = all.0 })
        by (Some bytes) is = absurd (ok_or_err (with_bytes r bytes) fault (sym is))

    own_in : (test : Entry → Bool) (entries : List Entry) → AreEntriesIn files entries → AreEntriesIn files (filter test entries)
    own_in test [] all = tt
    own_in test (e ∷ entries) all = by (test e) (own_in test entries all.1)
      where
        by : (own : Bool) → AreEntriesIn files (filter test entries) → AreEntriesIn files (if own then e ∷ filter test entries else filter test entries)
        by true rest = (all.0, rest)
        by false rest = rest

    each_told : (entries : List Entry) → AreEntriesIn files entries → (stock : List Stocked) (fault : Fault) → EachInOrder (IsRestrung types moment entries) stock (Err fault) → IsNameable files fault
    each_told entries all [] fault is = absurd (ok_or_err {X = List Resource} [] fault (sym is))
    each_told entries all (s ∷ stock) fault (inl (new, put, inl (others, are, is))) = absurd (ok_or_err (new ∷ others) fault (sym is))
    each_told entries all (s ∷ stock) fault (inl (new, put, inr (other, bad, is))) = each_told entries all stock fault (subst (λ (f : Fault). EachInOrder (IsRestrung types moment entries) stock (Err f)) (sym (same_err {X = List Resource} fault other is)) bad)
    each_told entries all (s ∷ stock) fault (inr (other, bad, is)) =
        put_told s.resource s.tree (filter (is_entry_for s.resource) entries) (own_in (is_entry_for s.resource) entries all) fault
        (subst (λ (f : Fault). IsRestrung types moment entries s (Err f)) (sym (same_err {X = List Resource} fault other is)) bad)

    pub faults_told : (over : Bool) (list : List Resource) (entries : List Entry) (fault : Fault) → Applied types moment over list entries (Err fault) → AreEntriesIn files entries → IsNameable files fault
    faults_told over list entries fault applied all = by (first_refused over applied.stock entries) refl applied.is
      where
        by : (refused : Option Fault) → first_refused over applied.stock entries ≡ refused → IsAppliedTo types moment applied.stock entries refused (Err fault) → IsNameable files fault
        by (Some other) first is = first_told over applied.stock [] entries fault all (first ∙ ap (λ (f : Fault). Some f) (sym (same_err {X = List Resource} fault other is)))
        by None first is = each_told entries all applied.stock fault is
