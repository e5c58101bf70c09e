-- Induction over values.
use Rattle.std.proofs.Common.{ℕ, List, [], ◌∷◌, map, sym, subst}
use Rattle.std.specs.List.{AllByRecursion}
use Rattle.rz_core.specs.declared.resource.Word.{Word}
use Rattle.rz_types_fields.specs.declared.tree.Tree.{map-Tree, roll-Tree, Tree}
use Rattle.rz_types_fields.specs.declared.tree.Tree.TheFolds.{ind-Tree}
use Rattle.rz_types_fields.specs.declared.tree.Tree.TheOpen.{Tree-F}
use Rattle.rz_types_fields.specs.declared.tree.Tree.TheVariants as trees

pub record Holds (P : Tree → Type 0) : Type 0 where
  pub number : (n : ℕ) → P (trees.Number n)
  pub text : (bytes : List ℕ) → P (trees.Text bytes)
  pub group : (numbers : List ℕ) → P (trees.Group numbers)
  pub rows : (rows : List (List Tree)) → AllByRecursion (AllByRecursion P) rows → P (trees.Rows rows)
  pub choice : (name : Word) (row : List Tree) → AllByRecursion P row → P (trees.Choice name row)

module _ (P : Tree → Type 0) where
  each : (row : List ((t : Tree) × P t)) → AllByRecursion P (map (λ one. one.0) row)
  each [] = tt
  each (one ∷ row) = (one.1, each row)

  each_row : (rows : List (List ((t : Tree) × P t))) → AllByRecursion (AllByRecursion P) (map (map (λ one. one.0)) rows)
  each_row [] = tt
  each_row (row ∷ rows) = (each row, each_row rows)

  -- what holds of each value where it holds of the values within it holds of all
  pub each_value : Holds P → (value : Tree) → P value
  each_value holds = ind-Tree P (λ layer within is. subst (λ (l : Tree-F Tree). P (roll-Tree l)) is (by within))
    where
      by : (layer : Tree-F ((t : Tree) × P t)) → P (roll-Tree (map-Tree ((t : Tree) × P t) Tree (λ one. one.0) layer))
      by (Tree-F.Number n) = subst P (sym (trees.rolls-Number n)) (holds.number n)
      by (Tree-F.Text bytes) = subst P (sym (trees.rolls-Text bytes)) (holds.text bytes)
      by (Tree-F.Group numbers) = subst P (sym (trees.rolls-Group numbers)) (holds.group numbers)
      by (Tree-F.Rows rows) = subst P (sym (trees.rolls-Rows (map (map (λ one. one.0)) rows))) (holds.rows (map (map (λ one. one.0)) rows) (each_row rows))
      by (Tree-F.Choice name row) = subst P (sym (trees.rolls-Choice name (map (λ one. one.0) row))) (holds.choice name (map (λ one. one.0) row) (each row))
