-- Texts that are put in the places of leaves, one value after the other.
use Rattle.std.specs.Prelude.{◌≡◌, ℕ, List, ◌∷◌, map}
use Rattle.std.specs.List.{flat_map}
use Rattle.rz_types_fields.specs.declared.tree.Tree.{Tree}
use Rattle.rz_types_fields.specs.declared.tree.Tree.TheVariants as trees
use Rattle.rz_catalog.specs.Leaves.{blank, leaves}

abbrev pub row_leaves : List (List Tree) → List (List ℕ)
row_leaves rows = flat_map leaves rows

abbrev pub blank_rows : List (List Tree) → List (List Tree)
blank_rows rows = map blank rows

-- the value is the first of these texts, and those are left
abbrev pub IsFirst : Tree → List (List ℕ) → List (List ℕ) → Type 0
IsFirst value all rest = (first : List ℕ) × (value ≡ trees.Text first) × (all ≡ first ∷ rest)

abbrev pub IsAText : Tree → Type 0
IsAText value = (bytes : List ℕ) × (value ≡ trees.Text bytes)
