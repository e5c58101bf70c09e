-- Entries are applied to a list in exactly one way.
use Rattle.std.proofs.Common.{◌≡◌, ℕ, Bool, true, false, List, [], ◌∷◌, length, Option, Some, None, refl, sym, ap, subst, ◌∙◌, arith}
use Rattle.std.specs.Prelude.{filter, option_map, Ok, Err}
use Rattle.std.specs.List.{AllByRecursion}
use Rattle.std.specs.Option.{ok_or}
use Rattle.std.specs.declared.result.Result.{Result}
use Rattle.rz_core.proofs.EveryCut.{answer_of, known_of, one_answer}
use Rattle.rz_core.proofs.Has.{has_is, Has}
use Rattle.rz_core.proofs.Lists.{length-with_front}
use Rattle.rz_core.proofs.Once.{ok_or_err, once_is, same_ok, Once}
use Rattle.rz_core.proofs.Tests.{same_some}
use Rattle.rz_core.specs.Decided.{Decided}
use Rattle.rz_core.specs.declared.facts.Facts.{Facts}
use Rattle.rz_core.specs.declared.fault.Fault.{Fault}
use Rattle.rz_core.specs.declared.moment.Moment.{Moment}
use Rattle.rz_core.specs.declared.resource.Resource.{Resource}
use Rattle.rz_catalog_text.specs.declared.entry.Entry.{Entry}
use Rattle.rz_layout.specs.Compiled.{IsCompiled}
use Rattle.rz_types.specs.Field.{PlainBody}
use Rattle.rz_types.specs.Rules.{keeps_rules}
use Rattle.rz_types_fields.specs.Laid.{Refusal}
use Rattle.rz_types_fields.specs.Row.{IsRow}
use Rattle.rz_types_fields.specs.Spells.{Spells, SpellsPlainly}
use Rattle.rz_types_fields.specs.declared.tree.Tree.{Tree}
use Rattle.rz_types_table.specs.Table.{declared_for, Declaration}
use Rattle.rz_unlay.specs.Reading.{facts_of}
use Rattle.rz_catalog.proofs.Changed.{every_changed, one_changed}
use Rattle.rz_catalog.proofs.InOrder.{has_each, once_each}
use Rattle.rz_catalog.proofs.Rows.{row_stays}
use Rattle.rz_catalog.proofs.SameRows.{row_known}
use Rattle.rz_catalog.proofs.Stocks.{every_stock, one_row, one_stock, OneTree, TreesAreDecided}
use Rattle.rz_catalog.specs.Apply.{fault_of, first_refused, is_entry_for, placed, text_for, with_bytes, Applied, IsAppliedTo, IsChanged, IsPut, IsRestrung}
use Rattle.rz_catalog.specs.Leaves.{leaves, HasTexts}
use Rattle.rz_catalog.specs.Stock.{AreStocked, HasTree, Stocked}

abbrev pub PlainIsSpelled : Type 0
PlainIsSpelled = (known : Facts) (body : PlainBody) (row : List Tree) (bytes : List ℕ) → SpellsPlainly known body row bytes → Spells known body row bytes

abbrev pub SpelledIsRow : Type 0
SpelledIsRow = (known : Facts) (body : PlainBody) (row : List Tree) (bytes : List ℕ) → SpellsPlainly known body row bytes → IsRow body row

abbrev pub SomeSpelling : Type 0
SomeSpelling = (known : Facts) (body : PlainBody) (row : List Tree) → keeps_rules body ≡ true → IsRow body row → (answer : Result (List ℕ) Refusal) × IsCompiled known body row answer

abbrev pub OneSpelling : Type 0
OneSpelling = (known : Facts) (body : PlainBody) (row : List Tree) (answer other : Result (List ℕ) Refusal) → IsCompiled known body row answer → IsCompiled known body row other → answer ≡ other

module _ (spelling : OneSpelling) (spelled : PlainIsSpelled) (types : List Declaration) (moment : Moment) (r : Resource) (new : List Tree) where
  -- with these bytes the resource has the row as its tree
  abbrev pub IsFor : List ℕ → Type 0
  IsFor bytes = HasTree types moment (with_bytes r bytes) new

  tree_compiled : (body : PlainBody) → declared_for types r ≡ Some body → (bytes : List ℕ) → IsFor bytes → IsCompiled (facts_of moment r) body new (Ok bytes)
  tree_compiled body declared bytes (own, tree) =
      let same : own ≡ body = same_some (declared_for types r) own body tree.declared declared in
      subst (λ (b : PlainBody). Spells (facts_of moment r) b new bytes) same (spelled (facts_of moment r) own new bytes tree.told.1)

  pub one_bytes : (bytes others : List ℕ) → IsFor bytes → IsFor others → bytes ≡ others
  one_bytes bytes others is also =
      same_ok {F = Refusal} bytes others
      (spelling (facts_of moment r) is.0 new (Ok bytes) (Ok others) (tree_compiled is.0 is.1.declared bytes is) (tree_compiled is.0 is.1.declared others also))

  -- it is decided whether there are such bytes
  module _ (one : OneTree) (decided : TreesAreDecided) (body : PlainBody) (declared : declared_for types r ≡ Some body) where
    own_bytes : (bytes : List ℕ) → IsCompiled (facts_of moment r) body new (Ok bytes) → Dec ((others : List ℕ) × IsFor others)
    own_bytes bytes is = by (known_of (HasTree types moment (with_bytes r bytes)) (decided (declared_for types r) (facts_of moment r) bytes))
      where
        moved : (others : List ℕ) → IsFor others → IsFor bytes
        moved others tree =
            subst IsFor (same_ok {F = Refusal} others bytes (spelling (facts_of moment r) body new (Ok others) (Ok bytes) (tree_compiled body declared others tree) is)) tree

        at_row : (row : List Tree) → HasTree types moment (with_bytes r bytes) row → Dec (row ≡ new) → Dec ((others : List ℕ) × IsFor others)
        at_row row tree (yes same) = yes (bytes, subst (HasTree types moment (with_bytes r bytes)) same tree)
        at_row row tree (no differs) = no (λ h. differs (one_row types moment one (with_bytes r bytes) row new tree (moved h.0 h.1)))

        by : Dec ((row : List Tree) × HasTree types moment (with_bytes r bytes) row) → Dec ((others : List ℕ) × IsFor others)
        by (yes h) = at_row h.0 h.1 (row_known h.0 new)
        by (no never) = no (λ h. never (new, moved h.0 h.1))

    pub bytes_known : (answer : Result (List ℕ) Refusal) → IsCompiled (facts_of moment r) body new answer → Dec ((bytes : List ℕ) × IsFor bytes)
    bytes_known (Ok bytes) is = own_bytes bytes is
    bytes_known (Err fault) is = no (λ h. ok_or_err h.0 fault (spelling (facts_of moment r) body new (Ok h.0) (Err fault) (tree_compiled body declared h.0 h.1) is))

module _ (one : OneTree) (spelling : OneSpelling) (spelled : PlainIsSpelled) (types : List Declaration) (moment : Moment) where
  -- At most one answer.

  once_changed : (r : Resource) (row : List Tree) (entries : List Entry) (first : Entry) → Once (IsChanged types moment r row entries first)
  once_changed r row entries first answer other (new, has, found, decided, is) (another, also, others, known, so) =
      let same : another ≡ new = one_changed (placed entries (leaves row)) row another new also has in
      let known_too : Decided (IsFor spelling spelled types moment r new) others = subst (λ (n : List Tree). Decided (IsFor spelling spelled types moment r n) others) same known in
      is ∙ ap (λ (o : Option (List ℕ)). ok_or (option_map (with_bytes r) o) (fault_of 464 first))
      (one_answer (IsFor spelling spelled types moment r new) (one_bytes spelling spelled types moment r new) found others decided known_too) ∙ sym so

  once_put : (r : Resource) (tree : Option (List Tree)) (entries : List Entry) → Once (IsPut types moment r tree entries)
  once_put r tree [] = once_is (Ok r)
  once_put r None (first ∷ others) = once_is (Ok r)
  once_put r (Some row) (first ∷ others) = once_changed r row (first ∷ others) first

  pub once_applied : (stock : List Stocked) (entries : List Entry) (fault : Option Fault) → Once (IsAppliedTo types moment stock entries fault)
  once_applied stock entries (Some fault) = once_is (Err fault)
  once_applied stock entries None = once_each (IsRestrung types moment entries) (λ s. once_put s.resource s.tree (filter (is_entry_for s.resource) entries)) stock

  pub one_application : (over : Bool) (list : List Resource) (entries : List Entry) → Once (Applied types moment over list entries)
  one_application over list entries answer other a b =
      let same : b.stock ≡ a.stock = one_stock types moment one list b.stock a.stock b.stocked a.stocked in
      once_applied a.stock entries (first_refused over a.stock entries) answer other a.is
      (subst (λ (stock : List Stocked). IsAppliedTo types moment stock entries (first_refused over stock entries) other) same b.is)

  -- At least one.

  module _ (decided : TreesAreDecided) (some : SomeSpelling) (is_row : SpelledIsRow) where
    found_changed : (r : Resource) (row : List Tree) (entries : List Entry) (first : Entry) (new : List Tree) → HasTexts (placed entries (leaves row)) row new
        → (found : Option (List ℕ)) → Decided (IsFor spelling spelled types moment r new) found → Has (IsChanged types moment r row entries first)
    found_changed r row entries first new has found is = (ok_or (option_map (with_bytes r) found) (fault_of 464 first), (new, has, found, is, refl))

    pub has_changed : (r : Resource) (row : List Tree) (entries : List Entry) (first : Entry) → HasTree types moment r row → Has (IsChanged types moment r row entries first)
    has_changed r row entries first (body, tree) =
        let facts = facts_of moment r in
        let many = length-with_front (λ before own. text_for entries (length before) own ∷ []) 1 (λ before own. refl) [] (leaves row) in
        let new = every_changed (placed entries (leaves row)) row (omega (arith, many)) in
        let are : IsRow body new.0 = row_stays body row new.0 new.1.same (is_row facts body row r.bytes tree.told.1) in
        let compiled = some facts body new.0 tree.kept are in
        let found = answer_of (IsFor spelling spelled types moment r new.0) (bytes_known spelling spelled types moment r new.0 one decided body tree.declared compiled.0 compiled.1) in
        found_changed r row entries first new.0 new.1 found.0 found.1

    has_put : (r : Resource) (tree : Option (List Tree)) (entries : List Entry) → Decided (HasTree types moment r) tree → Has (IsPut types moment r tree entries)
    has_put r tree [] is = has_is (Ok r)
    has_put r None (first ∷ others) is = has_is (Ok r)
    has_put r (Some row) (first ∷ others) is = has_changed r row (first ∷ others) first is

    each_put : (entries : List Entry) (list : List Resource) (stock : List Stocked) → AreStocked types moment list stock → AllByRecursion (λ s. Has (IsRestrung types moment entries s)) stock
    each_put entries [] [] are = tt
    each_put entries [] (s ∷ stock) are = absurd are
    each_put entries (r ∷ list) [] are = absurd are
    each_put entries (r ∷ list) (s ∷ stock) are = (
      has_put s.resource s.tree (filter (is_entry_for s.resource) entries) (subst (λ (x : Resource). Decided (HasTree types moment x) s.tree) (sym are.0) are.1),
      each_put entries list stock are.2,
    )

    has_applied : (list : List Resource) (stock : List Stocked) → AreStocked types moment list stock → (entries : List Entry) (fault : Option Fault) → Has (IsAppliedTo types moment stock entries fault)
    has_applied list stock are entries (Some fault) = has_is (Err fault)
    has_applied list stock are entries None = has_each (IsRestrung types moment entries) stock (each_put entries list stock are)

    pub every_application : (over : Bool) (list : List Resource) (entries : List Entry) → Has (Applied types moment over list entries)
    every_application over list entries =
        let stock = every_stock types moment decided list in
        let answer = has_applied list stock.0 stock.1 entries (first_refused over stock.0 entries) in
        (answer.0, record { stock = stock.0; stocked = stock.1; is = answer.1 })
