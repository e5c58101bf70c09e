-- Entries in another order.
use Rattle.std.proofs.Common.{◌≡◌, ℕ, Bool, true, false, List, [], ◌∷◌, ◌++◌, length, cond, filter, Option, Some, None, refl, sym, ap, subst, ◌∙◌}
use Rattle.std.specs.Prelude.{◌==◌, ◌&&◌, ◌||◌, nat_le, not, option_map, IsPermutation, Ok, Err}
use Rattle.std.specs.List.{list_any, AllByRecursion}
use Rattle.std.specs.Option.{ok_or, unwrap_or}
use Rattle.std.specs.declared.result.Result.{Result}
use Rattle.std.proofs.lemmas.List.Sorted.{list_any-IsPermutation, IsPermutation-sym}
use Rattle.rz_catalog.proofs.Lookups.{holder_of, tested, LeavesDiffer}
use Rattle.rz_catalog.proofs.Numbered.{first_filtered, none_filtered}
use Rattle.rz_catalog.proofs.Pairs.{AreBy}
use Rattle.rz_catalog.specs.Apply.{entry_fault, fault_for, fault_of, first_such, is_entry_for, placed, refused_where, same_leaf, with_bytes, Applied, IsPut}
use Rattle.rz_catalog.specs.Leaves.{leaves, HasTexts}
use Rattle.rz_catalog.specs.Stock.{texts_of, HasTree, Stocked}
use Rattle.rz_catalog_text.specs.declared.entry.Entry.{Entry}
use Rattle.rz_laws.proofs.Distinct.{all_permuted, permuted_differ, same_first}
use Rattle.rz_laws.proofs.Keys.{for_same}
use Rattle.rz_laws.proofs.Parts.{made_applied, made_of, Restrings}
use Rattle.rz_laws.specs.Apart.{same_resource}
use Rattle.rz_core.proofs.Lists.{or_else_none}
use Rattle.rz_core.proofs.Once.{ok_or_err}
use Rattle.rz_core.proofs.Tests.{and_so, both, by_test, none_some, true_false}
use Rattle.rz_core.specs.Decided.{Decided}
use Rattle.rz_core.specs.Lists.{each_with_front, first_in, or_else}
use Rattle.rz_core.specs.Resources.{is_protected}
use Rattle.rz_core.specs.declared.fault.Fault.{Fault}
use Rattle.rz_core.specs.declared.moment.Moment.{Moment}
use Rattle.rz_core.specs.declared.resource.Resource.{Resource}
use Rattle.rz_types_fields.specs.declared.tree.Tree.{Tree}
use Rattle.rz_types_table.specs.Table.{Declaration}

-- Refusals: of entries none is refused exactly if each alone isn't, and they are for different leaves.

module _ (over : Bool) (stock : List Stocked) where
  abbrev Fits : Entry → Type 0
  Fits e = fault_for over (holder_of stock e) false e ≡ None

  untwice : (holder : Option Stocked) (twice : Bool) (e : Entry) → fault_for over holder twice e ≡ None → (twice ≡ false) × (fault_for over holder false e ≡ None)
  untwice None twice e none = absurd (none_some (fault_of 462 e) (sym none))
  untwice (Some s) false e none = (refl, none)
  untwice (Some s) true e none =
      let leaf = refused_where (nat_le (length (texts_of s)) e.leaf) (fault_of 462 e) in
      let protected = refused_where (not over && is_protected s.resource) (fault_of 219 e) in
      let behind = or_else_none leaf (or_else protected (Some (fault_of 463 e))) none in
      absurd (none_some (fault_of 463 e) (sym (or_else_none protected (Some (fault_of 463 e)) behind.1).1))

  unrefused : (front es : List Entry) → first_in (entry_fault over stock) front es ≡ None → AllByRecursion Fits es × LeavesDiffer front es
  unrefused front [] none = (tt, tt)
  unrefused front (e ∷ es) none =
      let each = or_else_none (entry_fault over stock front e) (first_in (entry_fault over stock) (front ++ e ∷ []) es) none in
      let own = untwice (holder_of stock e) (list_any (same_leaf e) front) e each.0 in
      let rest = unrefused (front ++ e ∷ []) es each.1 in
      ((own.1, rest.0), (own.0, rest.1))

  refused_none : (front es : List Entry) → AllByRecursion Fits es → LeavesDiffer front es → first_in (entry_fault over stock) front es ≡ None
  refused_none front [] fit differ = refl
  refused_none front (e ∷ es) fit differ =
      let own : entry_fault over stock front e ≡ None = ap (λ (twice : Bool). fault_for over (holder_of stock e) twice e) differ.0 ∙ fit.0 in
      let rest = refused_none (front ++ e ∷ []) es fit.1 differ.1 in
      λ i. or_else (own i) (rest i)

-- What is put into a resource.

some_filtered : (p : Entry → Bool) (xs : List Entry) → list_any p xs ≡ true → filter p xs ≡ [] → ⊥
some_filtered p [] some is = true_false (sym some)
some_filtered p (x ∷ xs) some is =
    by_test ⊥ (p x)
    (λ passes. cons_nil x (filter p xs) (sym (ap (λ (b : Bool). cond b (x ∷ filter p xs) (filter p xs)) passes) ∙ is))
    (λ other. some_filtered p xs (sym (ap (λ (b : Bool). b || list_any p xs) other) ∙ some) (sym (ap (λ (b : Bool). cond b (x ∷ filter p xs) (filter p xs)) other) ∙ is))
  where
    cons_nil : (x : Entry) (xs : List Entry) → x ∷ xs ≡ [] → ⊥
    cons_nil x xs is = cc is

module _ (types : List Declaration) (moment : Moment) where
  -- the same text for each leaf gives the same resource
  put_moved : (r : Resource) (tree : Option (List Tree)) (own mine : List Entry) (n : Resource) → (own ≡ [] → ⊥) → (mine ≡ [] → ⊥)
      → ((leaf : ℕ) → first_such (λ e. leaf == e.leaf) mine ≡ first_such (λ e. leaf == e.leaf) own) → IsPut types moment r tree own (Ok n) → IsPut types moment r tree mine (Ok n)
  put_moved r tree [] mine n some also same is = absurd (some refl)
  put_moved r tree (x ∷ own) [] n some also same is = absurd (also refl)
  put_moved r None (x ∷ own) (y ∷ mine) n some also same is = is
  put_moved r (Some row) (x ∷ own) (y ∷ mine) n some also same (new, has, found, decided, is) = by found decided is
    where
      texts : placed (x ∷ own) (leaves row) ≡ placed (y ∷ mine) (leaves row)
      texts = λ i. each_with_front (λ before text. unwrap_or (option_map (λ e. e.text) (sym (same (length before)) i)) text ∷ []) (leaves row)

      by : (found : Option (List ℕ)) → Decided (λ bytes. HasTree types moment (with_bytes r bytes) new) found → Ok n ≡ ok_or (option_map (with_bytes r) found) (fault_of 464 x)
          → IsPut types moment r (Some row) (y ∷ mine) (Ok n)
      by None decided is = absurd (ok_or_err n (fault_of 464 x) is)
      by (Some bytes) decided is = (new, subst (λ (l : List (List ℕ)). HasTexts l row new) texts has, Some bytes, decided, is)

  module _ (entries others : List Entry) (moved : IsPermutation entries others) (differ : LeavesDiffer [] entries) where
    -- entries for one leaf of one resource are for the same leaf
    alike : (r : Resource) (leaf : ℕ) (a b : Entry) → (is_entry_for r a && (leaf == a.leaf)) ≡ true → (is_entry_for r b && (leaf == b.leaf)) ≡ true → same_leaf b a ≡ true
    alike r leaf a b one other =
        let first = both (is_entry_for r a) (leaf == a.leaf) one in
        let second = both (is_entry_for r b) (leaf == b.leaf) other in
        and_so (same_resource b a) (b.leaf == a.leaf) (sym (for_same r b a second.0) ∙ first.0)
        (ap (λ (k : ℕ). k == a.leaf) (sym (tested leaf b.leaf second.1)) ∙ first.1)

    put_again : (s : Stocked) (n : Resource) → Restrings types moment entries s n → Restrings types moment others s n
    put_again s n put =
        let mine = is_entry_for s.resource in
        let any = list_any-IsPermutation mine entries others moved in
        by_test (Restrings types moment others s n) (list_any mine entries)
        (λ some.
        put_moved s.resource s.tree (filter mine entries) (filter mine others) n (some_filtered mine entries some) (some_filtered mine others (sym any ∙ some))
        (λ leaf.
        first_filtered mine (λ e. leaf == e.leaf) others
        ∙ same_first (λ e. mine e && (leaf == e.leaf)) (alike s.resource leaf) entries others moved differ
        ∙ sym (first_filtered mine (λ e. leaf == e.leaf) entries)) put)
        (λ none.
        subst (λ (l : List Entry). IsPut types moment s.resource s.tree l (Ok n)) (none_filtered mine entries none ∙ sym (none_filtered mine others (sym any ∙ none))) put)

    each_again : (stock : List Stocked) (new : List Resource) → AreBy (Restrings types moment entries) stock new → AreBy (Restrings types moment others) stock new
    each_again [] [] put = tt
    each_again [] (n ∷ new) put = absurd put
    each_again (s ∷ stock) [] put = absurd put
    each_again (s ∷ stock) (n ∷ new) put = (put_again s n put.0, each_again stock new put.1)

  pub in_any_order : (over : Bool) (list new : List Resource) (entries others : List Entry) → IsPermutation entries others → Applied types moment over list entries (Ok new)
      → Applied types moment over list others (Ok new)
  in_any_order over list new entries others moved it =
      let a = made_of types moment over list entries new it in
      let parts = unrefused over a.stock [] entries a.none in
      made_applied types moment over list others new (record {
        stock = a.stock;
        stocked = a.stocked;
        none = refused_none over a.stock [] others (all_permuted (Fits over a.stock) entries others moved parts.0) (permuted_differ entries others moved parts.1);
        each = each_again entries others moved parts.1 a.stock new a.each;
      })

abbrev pub OneApplication : Type 0
OneApplication = (types : List Declaration) (moment : Moment) (over : Bool) (list : List Resource) (entries : List Entry) (answer other : Result (List Resource) Fault)
    → Applied types moment over list entries answer → Applied types moment over list entries other → answer ≡ other

pub refused_alike : OneApplication → (types : List Declaration) (moment : Moment) (over : Bool) (list : List Resource) (entries others : List Entry) (fault : Fault)
    (answer : Result (List Resource) Fault) → IsPermutation entries others → Applied types moment over list entries (Err fault) → Applied types moment over list others answer
    → (another : Fault) × (answer ≡ Err another)
refused_alike one types moment over list entries others fault (Ok new) moved is also =
    absurd (ok_or_err new fault (one types moment over list entries (Ok new) (Err fault) (in_any_order types moment over list new others entries (IsPermutation-sym entries others moved) also) is))
refused_alike one types moment over list entries others fault (Err another) moved is also = (another, refl)
