-- What becomes of the resources of a stock.
use Rattle.std.proofs.Common.{◌≡◌, ℕ, List, [], ◌∷◌, ◌++◌, map, Option, Some, None, refl, sym, ap, subst, ◌∙◌}
use Rattle.std.specs.Prelude.{Bool, filter, option_map, Ok}
use Rattle.std.specs.Option.{ok_or}
use Rattle.std.proofs.lemmas.List.{map-append}
use Rattle.rz_core.proofs.Once.{ok_or_err, same_ok}
use Rattle.rz_core.proofs.Tests.{none_some}
use Rattle.rz_core.specs.Decided.{Decided}
use Rattle.rz_core.specs.declared.fault.Fault.{Fault}
use Rattle.rz_core.specs.declared.moment.Moment.{Moment}
use Rattle.rz_core.specs.declared.resource.Resource.{Resource}
use Rattle.rz_catalog_text.specs.declared.entry.Entry.{Entry}
use Rattle.rz_types_fields.specs.declared.tree.Tree.{Tree}
use Rattle.rz_types_table.specs.Table.{Declaration}
use Rattle.rz_catalog.proofs.Stocks.{one_row, one_stock, OneTree}
use Rattle.rz_catalog.specs.Apply.{fault_of, first_refused, is_entry_for, placed, with_bytes, Applied, IsAppliedTo, IsPut, IsRestrung}
use Rattle.rz_catalog.specs.Catalogue.{catalogue, entries_of, IsCatalogue}
use Rattle.rz_catalog.specs.Leaves.{leaves, HasTexts}
use Rattle.rz_catalog.specs.Stock.{texts_in, texts_of, AreStocked, HasTree, Stocked}
use Rattle.rz_catalog.proofs.Numbered.{entries_placed, none_filtered, placed_none}
use Rattle.rz_catalog.proofs.Pairs.{by_each, AreBy}
use Rattle.rz_catalog.specs.Became.{with_text, BecameEach}

-- the row with the texts in place, or still none
abbrev pub RowBecame : List Entry → (old new : Option (List Tree)) → Type 0
RowBecame mine None None = Unit {0}
RowBecame mine None (Some new) = ⊥
RowBecame mine (Some row) None = ⊥
RowBecame mine (Some row) (Some new) = HasTexts (placed mine (leaves row)) row new

own_became : (tree : Option (List Tree)) → RowBecame [] tree tree
own_became None = tt
own_became (Some row) = record { same = refl; are = sym (placed_none (leaves row)) }

texts_became : (mine : List Entry) (old new : Option (List Tree)) → RowBecame mine old new → texts_in new ≡ placed mine (texts_in old)
texts_became mine None None is = refl
texts_became mine None (Some new) is = absurd is
texts_became mine (Some row) None is = absurd is
texts_became mine (Some row) (Some new) is = is.are

module _ (types : List Declaration) (moment : Moment) where
  -- what became of a resource with this tree and these entries
  record Restrung (r : Resource) (tree : Option (List Tree)) (mine : List Entry) (n : Resource) : Type 0 where
    same : n ≡ with_bytes r n.bytes
    new : Option (List Tree)
    decided : Decided (HasTree types moment n) new
    became : RowBecame mine tree new
    others : mine ≡ [] → n ≡ r
    bare : tree ≡ None → n ≡ r

  stayed : (r : Resource) (tree : Option (List Tree)) (mine : List Entry) (n : Resource) → Decided (HasTree types moment r) tree → RowBecame mine tree tree → n ≡ r → Restrung r tree mine n
  stayed r tree mine n decided became is = record {
    same = subst (λ (x : Resource). x ≡ with_bytes r x.bytes) (sym is) refl;
    new = tree;
    decided = subst (λ (x : Resource). Decided (HasTree types moment x) tree) (sym is) decided;
    became = became;
    others = λ none. is;
    bare = λ none. is;
  }

  put_restrung : (r : Resource) (tree : Option (List Tree)) (mine : List Entry) (n : Resource) → Decided (HasTree types moment r) tree → IsPut types moment r tree mine (Ok n) → Restrung r tree mine n
  put_restrung r tree [] n decided is = stayed r tree [] n decided (own_became tree) (same_ok {F = Fault} n r is)
  put_restrung r None (first ∷ others) n decided is = stayed r None (first ∷ others) n decided tt (same_ok {F = Fault} n r is)
  put_restrung r (Some row) (first ∷ others) n decided (new, has, found, known, is) = by found known is
    where
      by : (found : Option (List ℕ)) → Decided (λ bytes. HasTree types moment (with_bytes r bytes) new) found → Ok n ≡ ok_or (option_map (with_bytes r) found) (fault_of 464 first)
          → Restrung r (Some row) (first ∷ others) n
      by None known is = absurd (ok_or_err n (fault_of 464 first) is)
      by (Some bytes) known is = subst (Restrung r (Some row) (first ∷ others)) (sym (same_ok {F = Fault} n (with_bytes r bytes) is)) (record {
        same = refl;
        new = Some new;
        decided = known;
        became = has;
        others = λ none. absurd (cc none);
        bare = λ none. absurd (none_some row (sym none));
      })

  -- the same of each resource of a list with its stock

  module _ (entries : List Entry) where
    abbrev mine_of : Resource → List Entry
    mine_of r = filter (is_entry_for r) entries

    abbrev AreRestrung : List Resource → List Stocked → List Resource → Type 0
    AreRestrung [] [] [] = Unit {0}
    AreRestrung (r ∷ list) (s ∷ stock) (n ∷ new) = (s.resource ≡ r) × Decided (HasTree types moment r) s.tree × Restrung r s.tree (mine_of r) n × AreRestrung list stock new
    AreRestrung list stock new = ⊥

    each_restrung : (list : List Resource) (stock : List Stocked) (new : List Resource) → AreStocked types moment list stock
        → AreBy (λ s n. IsRestrung types moment entries s (Ok n)) stock new → AreRestrung list stock new
    each_restrung [] [] [] are by = tt
    each_restrung [] [] (n ∷ new) are by = absurd by
    each_restrung [] (s ∷ stock) new are by = absurd are
    each_restrung (r ∷ list) [] new are by = absurd are
    each_restrung (r ∷ list) (s ∷ stock) [] are by = absurd by
    each_restrung (r ∷ list) (s ∷ stock) (n ∷ new) are by =
        let put : IsPut types moment r s.tree (mine_of r) (Ok n) = subst (λ (x : Resource). IsPut types moment x s.tree (mine_of x) (Ok n)) are.0 by.0 in
        (are.0, are.1, put_restrung r s.tree (mine_of r) n are.1 put, each_restrung list stock new are.2 by.1)

    applied_restrung : (over : Bool) (list new : List Resource) (stock : List Stocked) → AreStocked types moment list stock
        → IsAppliedTo types moment stock entries (first_refused over stock entries) (Ok new) → AreRestrung list stock new
    applied_restrung over list new stock are is = by (first_refused over stock entries) is
      where
        by : (fault : Option Fault) → IsAppliedTo types moment stock entries fault (Ok new) → AreRestrung list stock new
        by (Some fault) is = absurd (ok_or_err new fault is)
        by None is = each_restrung list stock new are (by_each (IsRestrung types moment entries) stock new is)

    -- What became of the list.

    module _ (one : OneTree) where
      tree_became : (r n : Resource) (row : List Tree) (tree new : Option (List Tree)) → Decided (HasTree types moment r) tree → Decided (HasTree types moment n) new
          → RowBecame (mine_of r) tree new → HasTree types moment r row
          → (changed : List Tree) × HasTexts (placed (mine_of r) (leaves row)) row changed × HasTree types moment n changed
      tree_became r n row None None decided known became has = absurd (decided row has)
      tree_became r n row None (Some new) decided known became has = absurd became
      tree_became r n row (Some own) None decided known became has = absurd became
      tree_became r n row (Some own) (Some new) decided known became has =
          (new, subst (λ (x : List Tree). HasTexts (placed (mine_of r) (leaves x)) x new) (one_row types moment one r own row decided has) became, known)

      bare_tree : (r : Resource) (tree : Option (List Tree)) → Decided (HasTree types moment r) tree → ((row : List Tree) → HasTree types moment r row → ⊥) → tree ≡ None
      bare_tree r None decided none = refl
      bare_tree r (Some row) decided none = absurd (none row decided)

      became_each : (list : List Resource) (stock : List Stocked) (new : List Resource) → AreRestrung list stock new → BecameEach types moment entries list new
      became_each [] [] [] are = tt
      became_each [] [] (n ∷ new) are = absurd are
      became_each [] (s ∷ stock) new are = absurd are
      became_each (r ∷ list) [] new are = absurd are
      became_each (r ∷ list) (s ∷ stock) [] are = absurd are
      became_each (r ∷ list) (s ∷ stock) (n ∷ new) are = (
        record {
          same = are.2.same;
          tree = λ row has. tree_became r n row s.tree are.2.new are.1 are.2.decided are.2.became has;
          others = λ none. are.2.others (none_filtered (is_entry_for r) entries none);
          bare = λ none. are.2.bare (bare_tree r s.tree are.1 none);
        },
        became_each list stock new are.3,
      )

      pub others_stay : (over : Bool) (list new : List Resource) → Applied types moment over list entries (Ok new) → BecameEach types moment entries list new
      others_stay over list new it = became_each list it.stock new (applied_restrung over list new it.stock it.stocked it.is)

      -- Its catalogue.

      entries_became : (r n : Resource) (tree : Option (List Tree)) (it : Restrung r tree (mine_of r) n)
          → entries_of n.kind n.id (texts_in it.new) ≡ map (with_text entries) (entries_of r.kind r.id (texts_in tree))
      entries_became r n tree it =
          (λ i. entries_of (it.same i).kind (it.same i).id (texts_became (mine_of r) tree it.new it.became i)) ∙ entries_placed entries r (texts_in tree)

      pub record Restocked (new : List Resource) (own : List Entry) : Type 0 where
        pub stock : List Stocked
        pub stocked : AreStocked types moment new stock
        pub is : map (with_text entries) own ≡ catalogue stock

      restocked : (list : List Resource) (stock : List Stocked) (new : List Resource) → AreRestrung list stock new → Restocked new (catalogue stock)
      restocked [] [] [] are = record { stock = []; stocked = tt; is = refl }
      restocked [] [] (n ∷ new) are = absurd are
      restocked [] (s ∷ stock) new are = absurd are
      restocked (r ∷ list) [] new are = absurd are
      restocked (r ∷ list) (s ∷ stock) [] are = absurd are
      restocked (r ∷ list) (s ∷ stock) (n ∷ new) are =
          let behind = restocked list stock new are.3 in
          let first : map (with_text entries) (entries_of s.resource.kind s.resource.id (texts_of s)) ≡ entries_of n.kind n.id (texts_in are.2.new) =
          ap (λ (x : Resource). map (with_text entries) (entries_of x.kind x.id (texts_of s))) are.0 ∙ sym (entries_became r n s.tree are.2) in
          record {
            stock = record { resource = n; tree = are.2.new } ∷ behind.stock;
            stocked = (refl, are.2.decided, behind.stocked);
            is = map-append (with_text entries) (entries_of s.resource.kind s.resource.id (texts_of s)) (catalogue stock) ∙ (λ i. first i ++ behind.is i);
          }

      pub changed_catalogue : (over : Bool) (list new : List Resource) (own : List Entry) → Applied types moment over list entries (Ok new) → IsCatalogue types moment list own
          → IsCatalogue types moment new (map (with_text entries) own)
      changed_catalogue over list new own it (stock, are, is) =
          let same : it.stock ≡ stock = one_stock types moment one list it.stock stock it.stocked are in
          let again = restocked list it.stock new (applied_restrung over list new it.stock it.stocked it.is) in
          (again.stock, again.stocked, ap (map (with_text entries)) (is ∙ ap catalogue (sym same)) ∙ again.is)
