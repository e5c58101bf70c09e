-- A stock beside its list, one resource after the other.
use Rattle.std.proofs.Common.{◌≡◌, ℕ, zero, suc, ◌+◌, ◌≤◌, List, [], ◌∷◌, ◌++◌, length, take, slice_get, Some, refl, sym, ap, subst, ◌∙◌, arith}
use Rattle.std.proofs.lemmas.List.{append_assoc, take_all}
use Rattle.std.proofs.lemmas.Option.{same_Some}
use Rattle.rz_core.specs.Decided.{Decided}
use Rattle.rz_core.specs.declared.moment.Moment.{Moment}
use Rattle.rz_core.specs.declared.resource.Resource.{Resource}
use Rattle.rz_types_table.specs.Table.{Declaration}
use Rattle.rz_catalog_text.specs.declared.entry.Entry.{Entry}
use Rattle.rz_catalog.specs.Catalogue.{catalogue, entries_of}
use Rattle.rz_catalog.specs.Stock.{texts_of, AreStocked, HasTree, Stocked}
use Rattle.rz_catalog.proofs.Places.{one_more}

module _ (types : List Declaration) (moment : Moment) where
  -- what the stock has of a resource
  pub record StockedAt (stock : List Stocked) (k : ℕ) (r : Resource) : Type 0 where
    pub s : Stocked
    pub at : slice_get stock k ≡ Some s
    pub same : s.resource ≡ r
    pub tree : Decided (HasTree types moment r) s.tree

  pub stocked_at : (list : List Resource) (stock : List Stocked) → AreStocked types moment list stock → (k : ℕ) (r : Resource) → slice_get list k ≡ Some r → StockedAt stock k r
  stocked_at [] stock are k r is = absurd cc
  stocked_at (x ∷ list) [] are k r is = absurd are
  stocked_at (x ∷ list) (s ∷ stock) are zero r is =
      let same : x ≡ r = same_Some x r is in
      record { s = s; at = refl; same = are.0 ∙ same; tree = subst (λ (y : Resource). Decided (HasTree types moment y) s.tree) same are.1 }
  stocked_at (x ∷ list) (s ∷ stock) are (suc k) r is =
      let behind = stocked_at list stock are.2 k r is in
      record { s = behind.s; at = behind.at; same = behind.same; tree = behind.tree }

  pub same_length : (list : List Resource) (stock : List Stocked) → AreStocked types moment list stock → length stock ≡ length list
  same_length [] [] are = refl
  same_length [] (s ∷ stock) are = absurd are
  same_length (r ∷ list) [] are = absurd are
  same_length (r ∷ list) (s ∷ stock) are = ap suc (same_length list stock are.2)

  -- at the end of the list it is the whole stock
  pub taken : (list : List Resource) (stock : List Stocked) → AreStocked types moment list stock → (k : ℕ) → length list ≤ k → take k stock ≡ stock
  taken list stock are k past = let n = same_length list stock are in take_all k stock (omega (arith, n, past))

-- the catalogue of one resource more
pub catalogue_more : (stock : List Stocked) (k : ℕ) (s : Stocked) → slice_get stock k ≡ Some s → (old so_far new : List Entry)
    → new ≡ so_far ++ entries_of s.resource.kind s.resource.id (texts_of s) → so_far ≡ old ++ catalogue (take k stock) → new ≡ old ++ catalogue (take (k + 1) stock)
catalogue_more stock k s at old so_far new is before =
    let own = entries_of s.resource.kind s.resource.id (texts_of s) in
    is ∙ ap (λ (front : List Entry). front ++ own) before ∙ append_assoc old (catalogue (take k stock)) own
    ∙ ap (λ (back : List Entry). old ++ back) (sym (one_more (λ s. entries_of s.resource.kind s.resource.id (texts_of s)) stock k s at))
