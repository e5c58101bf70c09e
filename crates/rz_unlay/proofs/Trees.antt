-- What bytes tell as a tree: what they tell under the fields that are declared.
use Rattle.std.proofs.Common.{◌≡◌, ℕ, true, List, Option, Some, None, refl, sym, subst, ◌∙◌}
use Rattle.std.proofs.lemmas.Option.{none-some, same_Some}
use Rattle.rz_core.proofs.Tests.{by_test, true_false}
use Rattle.rz_core.specs.Decided.{Decided}
use Rattle.rz_core.specs.declared.facts.Facts.{Facts}
use Rattle.rz_types_fields.specs.declared.tree.Tree.{Tree}
use Rattle.rz_types_fields.specs.Spells.{SpellsPlainly}
use Rattle.rz_types.specs.Field.{PlainBody}
use Rattle.rz_types.specs.Readable.{is_readable}
use Rattle.rz_types.specs.Rules.{keeps_rules}
use Rattle.rz_types.specs.Shape.{is_well_shaped}
use Rattle.rz_unlay.specs.Reading.{IsTold, IsTree}

module _ (fields : Option PlainBody) (known : Facts) (bytes : List ℕ) where
  abbrev pub HasTree : List Tree → Type 0
  HasTree row = (body : PlainBody) × IsTree fields known bytes body row

  -- nothing is told where nothing is declared
  pub none_declared : fields ≡ None → (body : PlainBody) (row : List Tree) → IsTree fields known bytes body row → ⊥
  none_declared none body row tree = none-some body (sym none ∙ tree.declared)

  -- what is told under the fields that are declared

  module _ (body : PlainBody) (declared : fields ≡ Some body) where
    pub same_body : (own : PlainBody) (row : List Tree) → IsTree fields known bytes own row → body ≡ own
    same_body own row tree = same_Some body own (sym declared ∙ tree.declared)

    own_tree : (own : PlainBody) (row : List Tree) → IsTree fields known bytes own row → IsTree fields known bytes body row
    own_tree own row tree = subst (λ (b : PlainBody). IsTree fields known bytes b row) (sym (same_body own row tree)) tree

    pub tree_told : (own : PlainBody) (row : List Tree) → IsTree fields known bytes own row → IsTold known body bytes row
    tree_told own row tree = (own_tree own row tree).told

    pub none_tree : ((row : List Tree) → IsTold known body bytes row → ⊥) → (row : List Tree) → HasTree row → ⊥
    none_tree none row (own, tree) = none row (tree_told own row tree)

    pub told_tree : is_well_shaped body ≡ true → keeps_rules body ≡ true → (row : List Tree) → IsTold known body bytes row → HasTree row
    told_tree shaped kept row told = (body, record { declared = declared; shaped = shaped; kept = kept; told = told })

    decided_told : is_well_shaped body ≡ true → keeps_rules body ≡ true → (answer : Option (List Tree)) → Decided (IsTold known body bytes) answer → Decided HasTree answer
    decided_told shaped kept None none = none_tree none
    decided_told shaped kept (Some row) told = told_tree shaped kept row told

-- Laws.

abbrev pub AreDecided : Type 0
AreDecided =
    (known : Facts) (body : PlainBody) (bytes : List ℕ) → is_well_shaped body ≡ true → keeps_rules body ≡ true
    → (answer : Option (List Tree)) × Decided (IsTold known body bytes) answer

abbrev pub OnePlainRow : Type 0
OnePlainRow =
    (known : Facts) (body : PlainBody) (row other : List Tree) (bytes : List ℕ) → is_well_shaped body ≡ true → keeps_rules body ≡ true
    → is_readable body ≡ true → SpellsPlainly known body row bytes → SpellsPlainly known body other bytes → row ≡ other

module _ (known : Facts) (bytes : List ℕ) where
  abbrev HasAnswer : Option PlainBody → Type 0
  HasAnswer fields = (answer : Option (List Tree)) × Decided (HasTree fields known bytes) answer

  body_decided : AreDecided → (body : PlainBody) → HasAnswer (Some body)
  body_decided decided body =
      by_test (HasAnswer (Some body)) (is_well_shaped body)
      (λ shaped. by_test (HasAnswer (Some body)) (keeps_rules body)
      (λ kept. let told = decided known body bytes shaped kept in (told.0, decided_told (Some body) known bytes body refl shaped kept told.0 told.1))
      (λ broken. (None, λ row (own, tree). true_false (sym (own_tree (Some body) known bytes body refl own row tree).kept ∙ broken))))
      (λ other. (None, λ row (own, tree). true_false (sym (own_tree (Some body) known bytes body refl own row tree).shaped ∙ other)))

  pub trees_decided : AreDecided → (fields : Option PlainBody) → HasAnswer fields
  trees_decided decided None = (None, λ row (body, tree). none_declared None known bytes refl body row tree)
  trees_decided decided (Some body) = body_decided decided body

  pub one_tree : OnePlainRow → (fields : Option PlainBody) (body another : PlainBody) (row other : List Tree) → IsTree fields known bytes body row → IsTree fields known bytes another other
      → (body ≡ another) × (row ≡ other)
  one_tree one fields body another row other tree also =
      let same = same_body fields known bytes body tree.declared another other also in
      (same, one known body row other bytes tree.shaped tree.kept tree.told.0 tree.told.1 (tree_told fields known bytes body tree.declared another other also).1)
