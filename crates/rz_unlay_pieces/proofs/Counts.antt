-- How many values one has.
use Rattle.std.proofs.Common.{◌≡◌, ℕ, List, length, sym, ap, ◌∙◌}
use Rattle.rz_types_fields.specs.declared.tree.Tree.TheFolds.{fold-roll-Tree}
use Rattle.rz_types_fields.specs.declared.tree.Tree.TheOpen.{Tree-F}
use Rattle.rz_types_fields.specs.declared.tree.Tree.TheVariants as trees
use Rattle.rz_types_fields.specs.declared.tree.Tree.TheVariants.{rolls-Group, rolls-Number, rolls-Text}
use Rattle.rz_types_fields.specs.Spells.{count_in, count_step}

pub count_number : (n : ℕ) → count_in (trees.Number n) ≡ 1
count_number n = ap count_in (sym (rolls-Number n)) ∙ fold-roll-Tree ℕ count_step (Tree-F.Number n)

pub count_text : (bytes : List ℕ) → count_in (trees.Text bytes) ≡ 1
count_text bytes = ap count_in (sym (rolls-Text bytes)) ∙ fold-roll-Tree ℕ count_step (Tree-F.Text bytes)

pub count_group : (numbers : List ℕ) → count_in (trees.Group numbers) ≡ length numbers
count_group numbers = ap count_in (sym (rolls-Group numbers)) ∙ fold-roll-Tree ℕ count_step (Tree-F.Group numbers)
