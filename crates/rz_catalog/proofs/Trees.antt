-- The texts of a value are those of what is within it.
use Rattle.std.proofs.Common.{◌≡◌, ℕ, ◌+◌, List, [], ◌∷◌, ◌++◌, map, take, Some, refl, sym, ap, ◌∙◌}
use Rattle.std.specs.Prelude.{slice_get}
use Rattle.std.proofs.lemmas.Grind.{flat_map-append}
use Rattle.std.proofs.lemmas.List.{append-nil}
use Rattle.rz_core.proofs.Lists.{take_at_more}
use Rattle.std.specs.List.{flat_map}
use Rattle.std.proofs.lemmas.List.Folds.{flat_map-map}
use Rattle.rz_core.specs.declared.resource.Word.{Word}
use Rattle.rz_types_fields.specs.declared.tree.Tree.{Tree}
use Rattle.rz_types_fields.specs.declared.tree.Tree.TheFolds.{fold-roll-Tree}
use Rattle.rz_types_fields.specs.declared.tree.Tree.TheOpen.{Tree-F}
use Rattle.rz_types_fields.specs.declared.tree.Tree.TheVariants as trees
use Rattle.rz_types_fields.specs.declared.tree.Tree.TheVariants.{rolls-Choice, rolls-Rows}
use Rattle.rz_catalog.specs.Leaves.{all_of, leaves, leaves_of, leaves_step}
use Rattle.rz_catalog.specs.Put.{row_leaves}

each_row : (rows : List (List Tree)) → flat_map all_of (map (map leaves_of) rows) ≡ flat_map leaves rows
each_row [] = refl
each_row (row ∷ rows) = ap (λ front. front ++ flat_map all_of (map (map leaves_of) rows)) (flat_map-map (λ part. part) leaves_of row) ∙ ap (λ back. leaves row ++ back) (each_row rows)

pub rows_leaves : (rows : List (List Tree)) → leaves_of (trees.Rows rows) ≡ row_leaves rows
rows_leaves rows = ap leaves_of (sym (rolls-Rows rows)) ∙ fold-roll-Tree (List (List ℕ)) leaves_step (Tree-F.Rows rows) ∙ each_row rows

pub choice_leaves : (name : Word) (row : List Tree) → leaves_of (trees.Choice name row) ≡ leaves row
choice_leaves name row = ap leaves_of (sym (rolls-Choice name row)) ∙ fold-roll-Tree (List (List ℕ)) leaves_step (Tree-F.Choice name row) ∙ flat_map-map (λ part. part) leaves_of row

pub rows_more : (rows : List (List Tree)) (k : ℕ) (row : List Tree) → slice_get rows k ≡ Some row → row_leaves (take (k + 1) rows) ≡ row_leaves (take k rows) ++ leaves row
rows_more rows k row is = ap row_leaves (take_at_more rows k row is) ∙ flat_map-append leaves (take k rows) (row ∷ []) ∙ ap (λ back. row_leaves (take k rows) ++ back) (flat_map-one row)
  where
    flat_map-one : (row : List Tree) → row_leaves (row ∷ []) ≡ leaves row
    flat_map-one row = append-nil (leaves row)
