-- The texts of a row, its leaves: depth first, so that their positions are their numbers. A text stands in a row exactly
-- where a text field has its value.
use Rattle.std.specs.Prelude.{◌≡◌, ℕ, List, [], ◌∷◌, map}
use Rattle.std.specs.List.{flat_map}
use Rattle.rz_types_fields.specs.declared.tree.Tree.{fold-Tree, Tree}
use Rattle.rz_types_fields.specs.declared.tree.Tree.TheOpen.{Tree-F}
use Rattle.rz_types_fields.specs.declared.tree.Tree.TheVariants as trees

abbrev pub all_of : List (List (List ℕ)) → List (List ℕ)
all_of parts = flat_map (λ part. part) parts

abbrev pub leaves_step : Tree-F (List (List ℕ)) → List (List ℕ)
leaves_step (Tree-F.Number number) = []
leaves_step (Tree-F.Text bytes) = bytes ∷ []
leaves_step (Tree-F.Group numbers) = []
leaves_step (Tree-F.Rows rows) = flat_map all_of rows
leaves_step (Tree-F.Choice name row) = all_of row

abbrev pub leaves_of : Tree → List (List ℕ)
leaves_of value = fold-Tree (List (List ℕ)) leaves_step value

abbrev pub leaves : List Tree → List (List ℕ)
leaves row = flat_map leaves_of row

-- the row with empty texts in place of its own
abbrev pub blank_step : Tree-F Tree → Tree
blank_step (Tree-F.Number number) = trees.Number number
blank_step (Tree-F.Text bytes) = trees.Text []
blank_step (Tree-F.Group numbers) = trees.Group numbers
blank_step (Tree-F.Rows rows) = trees.Rows rows
blank_step (Tree-F.Choice name row) = trees.Choice name row

abbrev pub blank_of : Tree → Tree
blank_of value = fold-Tree Tree blank_step value

abbrev pub blank : List Tree → List Tree
blank row = map blank_of row

-- the new row is the old one but for its texts, which are these
pub record HasTexts (texts : List (List ℕ)) (old new : List Tree) : Type 0 where
  pub same : blank new ≡ blank old
  pub are : leaves new ≡ texts
