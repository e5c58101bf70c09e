-- The entries of a list's own catalogue give the list again.
use Rattle.std.proofs.Common.{◌≡◌, ℕ, ◌<◌, Bool, true, false, List, [], ◌∷◌, ◌++◌, length, map, Option, Some, None, cond, refl, sym, ap, subst, ◌∙◌, arith}
use Rattle.std.specs.Prelude.{◌==◌, ◌&&◌, not, filter, if◌then◌else◌, nat_le, option_map, slice_get, Ok}
use Rattle.std.specs.List.{list_any, AllByRecursion}
use Rattle.std.specs.Option.{unwrap_or}
use Rattle.std.proofs.lemmas.Bool.Decides.{nat_tests}
use Rattle.std.proofs.lemmas.List.{append_assoc, map-append}
use Rattle.std.proofs.lemmas.Option.{slice_get_within}
use Rattle.rz_core.proofs.Tests.{same_some}
use Rattle.rz_core.specs.Decided.{Decided}
use Rattle.rz_core.specs.Lists.{first_in, first_of, or_else, unless_fault, with_front}
use Rattle.rz_core.specs.Resources.{is_protected, same_key, KeysDiffer}
use Rattle.rz_core.specs.declared.fault.Fault.{Fault}
use Rattle.rz_core.specs.declared.moment.Moment.{Moment}
use Rattle.rz_core.specs.declared.resource.Resource.{Resource}
use Rattle.rz_catalog_text.specs.Stored.{unmarked}
use Rattle.rz_catalog_text.specs.declared.entry.Entry.{Entry}
use Rattle.rz_types_fields.specs.declared.tree.Tree.{Tree}
use Rattle.rz_types_table.specs.Table.{Declaration}
use Rattle.rz_catalog.specs.Apply.{entry_fault, fault_for, fault_of, first_refused, first_such, is_entry_for, placed, refused_where, same_leaf, text_for, Applied, IsAppliedTo, IsPut, IsRestrung}
use Rattle.rz_catalog.specs.Catalogue.{IsCatalogue}
use Rattle.rz_catalog.specs.Leaves.{leaves}
use Rattle.rz_catalog.specs.Stock.{texts_in, texts_of, AreStocked, HasTree, Stocked}
use Rattle.rz_catalog.proofs.Lookups.{any_map, at_front, behind_differ, each_own, first_map, holder_is, holder_of, leaves_differ, resources_of, stock_list, tested, IsOwn, LeavesDiffer, StockDiffers}
use Rattle.rz_catalog.proofs.Pairs.{each_by, AreBy}
use Rattle.rz_catalog.specs.Own.{finds_protected, protected_fault, own_answer}

-- Entries as they were read.

own_unmarked : (stock : List Stocked) (entries : List Entry) → AllByRecursion (IsOwn stock) (map unmarked entries) → AllByRecursion (IsOwn stock) entries
own_unmarked stock [] all = tt
own_unmarked stock (e ∷ entries) all = (all.0, own_unmarked stock entries all.1)

differ_unmarked : (before entries : List Entry) → LeavesDiffer (map unmarked before) (map unmarked entries) → LeavesDiffer before entries
differ_unmarked before [] all = tt
differ_unmarked before (e ∷ entries) all = (
  sym (any_map (same_leaf e) unmarked before) ∙ all.0,
  differ_unmarked (before ++ e ∷ []) entries (subst (λ (b : List Entry). LeavesDiffer b (map unmarked entries)) (sym (map-append unmarked before (e ∷ []))) all.1),
)

-- Which of them is refused.

module _ (stock : List Stocked) where
  abbrev holder_locked : Entry → Bool
  holder_locked e = finds_protected (option_map (λ s. s.resource) (holder_of stock e))

  -- no entry but one of a protected resource
  module _ (over : Bool) where
    own_fault : (before : List Entry) (e : Entry) → IsOwn stock e → list_any (same_leaf e) before ≡ false
        → entry_fault over stock before e ≡ refused_where (not over && holder_locked e) (fault_of 219 e)
    own_fault before e (s, is, at) differ =
        ap (λ (o : Option Stocked). fault_for over o (list_any (same_leaf e) before) e) is
        ∙ only (nat_le (length (texts_of s)) e.leaf) (not over && is_protected s.resource) (list_any (same_leaf e) before) (fault_of 462 e) (fault_of 219 e) (fault_of 463 e)
        (within e.leaf (length (texts_of s)) (slice_get_within (texts_of s) e.leaf e.text at)) differ
        ∙ ap (λ (o : Option Stocked). refused_where (not over && finds_protected (option_map (λ s. s.resource) o)) (fault_of 219 e)) (sym is)
      where
        within : (k n : ℕ) → k < n → nat_le n k ≡ false
        within k n less = grind (arith, nat_tests)

        only : (a b c : Bool) (x y z : Fault) → a ≡ false → c ≡ false → first_of (refused_where a x ∷ refused_where b y ∷ refused_where c z ∷ []) ≡ refused_where b y
        only false true false x y z one two = refl
        only false false false x y z one two = refl
        only false b true x y z one two = absurd (cc two)
        only true b c x y z one two = absurd (cc one)

    refused_is : (before entries : List Entry) → AllByRecursion (IsOwn stock) entries → LeavesDiffer before entries
        → first_in (entry_fault over stock) before entries ≡ (if over then None else option_map (fault_of 219) (first_such holder_locked entries))
    refused_is before [] own differ = none over
      where
        none : (b : Bool) → ◌≡◌ {A = Option Fault} None (if b then None else None)
        none true = refl
        none false = refl
    refused_is before (e ∷ entries) own differ =
        (λ i. or_else (own_fault before e own.0 differ.0 i) (refused_is (before ++ e ∷ []) entries own.1 differ.1 i))
        ∙ by over (holder_locked e)
      where
        by : (b locked : Bool)
            → or_else (refused_where (not b && locked) (fault_of 219 e)) (if b then None else option_map (fault_of 219) (first_such holder_locked entries))
            ≡ (if b then None else option_map (fault_of 219) (if locked then Some e else first_such holder_locked entries))
        by true locked = refl
        by false true = refl
        by false false = refl

-- its holder in the list
protected_is : (list : List Resource) (stock : List Stocked) → resources_of stock ≡ list → (e : Entry)
    → finds_protected (option_map (λ s. s.resource) (holder_of stock e)) ≡ finds_protected (first_such (λ r. is_entry_for r e) list)
protected_is list stock is e =
    ap finds_protected (sym (first_map (λ r. is_entry_for r e) (λ s. s.resource) stock)) ∙ ap (λ (l : List Resource). finds_protected (first_such (λ r. is_entry_for r e) l)) is

fault_is : (over : Bool) (list : List Resource) (entries : List Entry)
    → (if over then None else option_map (fault_of 219) (first_such (λ e. finds_protected (first_such (λ r. is_entry_for r e) list)) entries)) ≡ protected_fault over list entries
fault_is true list entries = refl
fault_is false list entries = refl

own_refused : (over : Bool) (list : List Resource) (stock : List Stocked) (entries : List Entry) → resources_of stock ≡ list → AllByRecursion (IsOwn stock) entries → LeavesDiffer [] entries
    → first_refused over stock entries ≡ protected_fault over list entries
own_refused over list stock entries is own differ =
    refused_is stock over [] entries own differ ∙ (λ i. if over then None else option_map (fault_of 219) (first_such (λ e. protected_is list stock is e i) entries)) ∙ fault_is over list entries

-- Texts that are the resource's own.

module _ {A : Type 0} (p : A → Bool) (P : A → Type 0) where
  all_filtered : (xs : List A) → AllByRecursion (λ x. p x ≡ true → P x) xs → AllByRecursion P (filter p xs)
  all_filtered [] all = tt
  all_filtered (x ∷ xs) all = by (p x) refl (all_filtered xs all.1)
    where
      by : (b : Bool) → p x ≡ b → AllByRecursion P (filter p xs) → AllByRecursion P (cond b (x ∷ filter p xs) (filter p xs))
      by true is others = (all.0 is, others)
      by false is others = others

module _ (texts : List (List ℕ)) (mine : List Entry) (own : AllByRecursion (λ e. slice_get texts e.leaf ≡ Some e.text) mine) where
  own_text : (k : ℕ) (text : List ℕ) → slice_get texts k ≡ Some text → text_for mine k text ≡ text
  own_text k text at = by mine own
    where
      at_entry : (e : Entry) → slice_get texts e.leaf ≡ Some e.text → (k == e.leaf) ≡ true → e.text ≡ text
      at_entry e there is = same_some (slice_get texts k) e.text text (ap (slice_get texts) (tested k e.leaf is) ∙ there) at

      by : (entries : List Entry) → AllByRecursion (λ e. slice_get texts e.leaf ≡ Some e.text) entries → text_for entries k text ≡ text
      by [] all = refl
      by (e ∷ entries) all = choose (k == e.leaf) refl (by entries all.1)
        where
          choose : (b : Bool) → (k == e.leaf) ≡ b → text_for entries k text ≡ text
              → unwrap_or (option_map (λ f. f.text) (if b then Some e else first_such (λ f. k == f.leaf) entries)) text ≡ text
          choose true is others = at_entry e all.0 is
          choose false is others = others

  own_placed : placed mine texts ≡ texts
  own_placed = by [] texts refl
    where
      by : (front rest : List (List ℕ)) → front ++ rest ≡ texts → with_front (λ before text. text_for mine (length before) text ∷ []) front rest ≡ rest
      by front [] is = refl
      by front (text ∷ rest) is =
          let at = ap (λ (l : List (List ℕ)). slice_get l (length front)) (sym is) ∙ at_front front text rest in
          let others = by (front ++ text ∷ []) rest (append_assoc front (text ∷ []) rest ∙ is) in
          λ i. own_text (length front) text at i ∷ others i

-- Resources that stay.

module _ (types : List Declaration) (moment : Moment) (whole : List Stocked) (entries : List Entry) (own : AllByRecursion (IsOwn whole) entries) where
  mine_own : (front : List Stocked) (s : Stocked) (rest : List Stocked) → whole ≡ front ++ s ∷ rest → list_any (λ b. same_key b s.resource) (resources_of front) ≡ false
      → AllByRecursion (λ e. slice_get (texts_of s) e.leaf ≡ Some e.text) (filter (is_entry_for s.resource) entries)
  mine_own front s rest is none = all_filtered (is_entry_for s.resource) (λ e. slice_get (texts_of s) e.leaf ≡ Some e.text) entries (by entries own)
    where
      by : (entries : List Entry) → AllByRecursion (IsOwn whole) entries → AllByRecursion (λ e. is_entry_for s.resource e ≡ true → slice_get (texts_of s) e.leaf ≡ Some e.text) entries
      by [] all = tt
      by (e ∷ entries) all = (
        λ mine. subst (λ (x : Stocked). slice_get (texts_of x) e.leaf ≡ Some e.text)
            (same_some (holder_of whole e) all.0.0 s all.0.1 (ap (λ (l : List Stocked). holder_of l e) is ∙ holder_is front s rest e none mine)) all.0.2,
        by entries all.1,
      )

  own_put : (r : Resource) (tree : Option (List Tree)) (mine : List Entry) → Decided (HasTree types moment r) tree
      → AllByRecursion (λ e. slice_get (texts_in tree) e.leaf ≡ Some e.text) mine → IsPut types moment r tree mine (Ok r)
  own_put r tree [] decided all = refl
  own_put r None (first ∷ others) decided all = refl
  own_put r (Some row) (first ∷ others) decided all =
      (row, record { same = refl; are = sym (own_placed (leaves row) (first ∷ others) all) }, Some r.bytes, decided, refl)

  each_put : (front stock : List Stocked) (list : List Resource) → whole ≡ front ++ stock → StockDiffers front stock → AreStocked types moment list stock
      → AreBy (λ s r. IsRestrung types moment entries s (Ok r)) stock list
  each_put front [] [] is keys are = tt
  each_put front (s ∷ stock) [] is keys are = absurd are
  each_put front [] (r ∷ list) is keys are = absurd are
  each_put front (s ∷ stock) (r ∷ list) is keys are = (
    subst (λ (x : Resource). IsRestrung types moment entries s (Ok x)) are.0
        (own_put s.resource s.tree (filter (is_entry_for s.resource) entries) (subst (λ (x : Resource). Decided (HasTree types moment x) s.tree) (sym are.0) are.1)
        (mine_own front s stock is keys.0)),
    each_put (front ++ s ∷ []) stock list (is ∙ sym (append_assoc front (s ∷ []) stock)) (behind_differ front s stock keys) are.2,
  )

pub own_catalogue : (types : List Declaration) (moment : Moment) (over : Bool) (list : List Resource) (entries : List Entry) → KeysDiffer [] list
    → IsCatalogue types moment list (map unmarked entries) → Applied types moment over list entries (own_answer over list entries)
own_catalogue types moment over list entries keys (stock, are, is) = record {
  stock = stock;
  stocked = are;
  is = subst (λ (fault : Option Fault). IsAppliedTo types moment stock entries fault (own_answer over list entries)) (sym refused) (by (protected_fault over list entries));
}
  where
    resources : resources_of stock ≡ list
    resources = stock_list types moment list stock are

    differ : StockDiffers [] stock
    differ = subst (KeysDiffer []) (sym resources) keys

    own : AllByRecursion (IsOwn stock) entries
    own = own_unmarked stock entries (subst (AllByRecursion (IsOwn stock)) (sym is) (each_own [] stock differ))

    refused : first_refused over stock entries ≡ protected_fault over list entries
    refused = own_refused over list stock entries resources own (differ_unmarked [] entries (subst (LeavesDiffer []) (sym is) (leaves_differ [] stock differ)))

    by : (fault : Option Fault) → IsAppliedTo types moment stock entries fault (unless_fault fault list)
    by (Some fault) = refl
    by None = each_by (IsRestrung types moment entries) stock list (each_put types moment stock entries own [] stock list refl differ are)
