-- What the values of rows are.
use Rattle.std.proofs.Common.{◌≡◌, ℕ, List, Some, ap}
use Rattle.rz_core.specs.declared.resource.Word.{Word}
use Rattle.rz_types_fields.specs.declared.tree.Tree.{Tree}
use Rattle.rz_types_fields.specs.declared.tree.Tree.TheVariants as trees
use Rattle.rz_types_fields.specs.Laid.{line_in, line_of_tree, number_in, number_of_tree, rows_in, rows_of_tree, text_in, text_of_tree}
use Rattle.rz_types_fields.specs.Spells.{choice_in, choice_of_tree, group_in, numbers_of_group}

pub number_is : (n : ℕ) → number_in (Some (trees.Number n)) ≡ n
number_is n = ap number_of_tree (trees.outs-Number n)

pub text_is : (bytes : List ℕ) → text_in (Some (trees.Text bytes)) ≡ bytes
text_is bytes = ap text_of_tree (trees.outs-Text bytes)

pub group_is : (numbers : List ℕ) → group_in (Some (trees.Group numbers)) ≡ numbers
group_is numbers = ap numbers_of_group (trees.outs-Group numbers)

pub rows_are : (rows : List (List Tree)) → rows_in (Some (trees.Rows rows)) ≡ rows
rows_are rows = ap rows_of_tree (trees.outs-Rows rows)

pub choice_is : (name : Word) (line : List Tree) → choice_in (Some (trees.Choice name line)) ≡ name.bytes
choice_is name line = ap choice_of_tree (trees.outs-Choice name line)

pub line_is : (name : Word) (line : List Tree) → line_in (Some (trees.Choice name line)) ≡ line
line_is name line = ap line_of_tree (trees.outs-Choice name line)
