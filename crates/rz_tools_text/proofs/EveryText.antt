-- Each list of resources is shown: a resource by its row, or by its bytes.
use Rattle.std.proofs.Common.{ℕ, List, [], ◌∷◌, ◌++◌, Option, Some, None, refl, sym, ◌∙◌}
use Rattle.rz_core.proofs.Tests.{by_test, true_false}
use Rattle.rz_core.specs.Decided.{Decided}
use Rattle.rz_core.specs.declared.facts.Facts.{Facts}
use Rattle.rz_core.specs.declared.resource.Resource.{Resource}
use Rattle.rz_show.specs.Shown.{row_uses}
use Rattle.rz_show.specs.Showing.{by_bytes, by_row, showing_text, Showing}
use Rattle.rz_tools_text.proofs.OneText.{OneTree}
use Rattle.rz_types_table.specs.Table.{declared_for}
use Rattle.rz_tools_text.specs.Shown.{its_bytes, its_row, IsShownBy, Known, Shown, TellsRow}
use Rattle.rz_tools_text.specs.Text.{ShowsEach}
use Rattle.rz_types.specs.Field.{PlainBody}
use Rattle.rz_types_fields.specs.declared.tree.Tree.{Tree}
use Rattle.rz_unlay.specs.Reading.{facts_of, IsTree}

-- of bytes it is decided which row they tell as a tree
abbrev pub TreesAreDecided : Type 0
TreesAreDecided =
    (fields : Option PlainBody) (known : Facts) (bytes : List ℕ) → (answer : Option (List Tree)) × Decided (λ row. (body : PlainBody) × IsTree fields known bytes body row) answer

module _ (decided : TreesAreDecided) (one : OneTree) (known : Known) where
  module _ (r : Resource) where
    abbrev IsBy : Type 0
    IsBy = (showing : Showing) × IsShownBy known r showing

    bytes_shown : ((body : PlainBody) (row : List Tree) → TellsRow known r body row → ⊥) → IsBy
    bytes_shown none = (by_bytes r, its_bytes none refl)

    abbrev IsOwn : PlainBody → List Tree → Type 0
    IsOwn body row = IsTree (declared_for known.types r) (facts_of known.moment r) r.bytes body row

    -- by a row that its bytes tell, if no case that it chooses has the name of a macro
    tree_shown : (body : PlainBody) (row : List Tree) → IsOwn body row → IsBy
    tree_shown body row tree =
        by_test IsBy (row_uses known.is_macro body row)
        (λ uses. bytes_shown (λ another other tells.
        let same = one (declared_for known.types r) (facts_of known.moment r) r.bytes body another row other tree tells.tree in
        true_false (sym uses ∙ (λ i. row_uses known.is_macro (same.0 i) (same.1 i)) ∙ tells.bare)))
        (λ bare. (by_row r body row, its_row body row (record { tree = tree; bare = bare }) refl))

    decided_shown : (answer : Option (List Tree)) × Decided (λ row. (body : PlainBody) × IsOwn body row) answer → IsBy
    decided_shown (Some row, (body, tree)) = tree_shown body row tree
    decided_shown (None, none) = bytes_shown (λ body row tells. none row (body, tells.tree))

    has_shown : (text : List ℕ) × Shown known r text
    has_shown =
        let by : IsBy = decided_shown (decided (declared_for known.types r) (facts_of known.moment r) r.bytes) in
        (showing_text known.is_macro by.0, (by.0, by.1, refl))

  pub has_each : (list : List Resource) → (text : List ℕ) × ShowsEach known list text
  has_each [] = ([], refl)
  has_each (r ∷ rs) =
      let first = has_shown r in
      let others = has_each rs in
      (first.0 ++ others.0, (first.0, others.0, refl, first.1, others.1))
