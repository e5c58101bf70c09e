-- The numbers of points and rectangles, one after the other.
use Rattle.std.specs.Prelude.{ℕ, List, ◌++◌, map, replicate, Option, Some, None, option_map}
use Rattle.rz_expr.specs.Environment.{Environment}
use Rattle.rz_expr.specs.Term.{Term}
use Rattle.rz_types_fields.specs.Piece.{fixed_integer, free_integer}
use Rattle.rz_types_fields.specs.Sees.{Late}
use Rattle.rz_types_fields.specs.declared.tree.Tree.TheVariants as trees
use Rattle.rz_unlay.specs.Pieces.{grouped, pieces_found, Found}
use Rattle.rz_unlay_pieces.specs.Pieces.{Here, Step}

-- so many numbers of the row, as one value
abbrev pub group_read : Here → ℕ → Environment → ℕ → Late → Option Step
group_read here count names at late =
    option_map (λ f. record { value = grouped None f.row; after = f.after; names = f.names; late = f.late }) (pieces_found here (replicate count free_integer) names at late)

-- numbers with fixed values
abbrev pub fixed_read : Here → List Term → Environment → ℕ → Late → Option Step
fixed_read here terms names at late =
    option_map (λ f. record { value = grouped (Some terms) f.row; after = f.after; names = f.names; late = f.late }) (pieces_found here (map fixed_integer terms) names at late)

-- after numbers that were read
abbrev pub behind_numbers : List ℕ → Option Found → Option Found
behind_numbers numbers found = option_map (λ f. record { row = map trees.Number numbers ++ f.row; after = f.after; names = f.names; late = f.late }) found
