-- A row has no more leaves than values.
use Rattle.std.proofs.Common.{◌≡◌, ℕ, ◌≤◌, List, [], ◌∷◌, length, Option, sym, ap, ◌∙◌, arith}
use Rattle.std.specs.List.{flat_map, sum_by, AllByRecursion}
use Rattle.std.proofs.lemmas.List.{length-append}
use Rattle.std.proofs.lemmas.List.Sums.{sum_by-cons}
use Rattle.rz_core.specs.declared.facts.Facts.{Facts}
use Rattle.rz_types.specs.Field.{PlainBody}
use Rattle.rz_types_fields.specs.declared.tree.Tree.{Tree}
use Rattle.rz_types_fields.specs.declared.tree.Tree.TheFolds.{fold-roll-Tree}
use Rattle.rz_types_fields.specs.declared.tree.Tree.TheOpen.{Tree-F}
use Rattle.rz_types_fields.specs.declared.tree.Tree.TheVariants as trees
use Rattle.rz_types_fields.specs.Spells.{count_in, count_step, values_in}
use Rattle.rz_unlay.specs.Reading.{IsTree}
use Rattle.rz_unlay.proofs.FewValues.{count_choice, count_rows}
use Rattle.rz_catalog.specs.Leaves.{leaves, leaves_of}
use Rattle.rz_catalog.proofs.EachValue.{each_value, Holds}
use Rattle.rz_catalog.proofs.Trees.{choice_leaves, rows_leaves}
use Rattle.rz_catalog.proofs.Values.{group_leaves, number_leaves, text_leaves}

module _ {X Y : Type 0} (f : X → List Y) (count : X → ℕ) where
  abbrev AreFew : X → Type 0
  AreFew x = length (f x) ≤ count x

  few_each : (xs : List X) → AllByRecursion AreFew xs → length (flat_map f xs) ≤ sum_by count xs
  few_each [] all = omega arith
  few_each (x ∷ xs) all =
      let a = length-append (f x) (flat_map f xs) in
      let b = sum_by-cons count x xs in
      let c = few_each xs all.1 in
      let d : length (f x) ≤ count x = all.0 in
      omega (arith, a, b, c, d)

abbrev IsFew : Tree → Type 0
IsFew = AreFew leaves_of count_in

few_rows : (rows : List (List Tree)) → AllByRecursion (AllByRecursion IsFew) rows → AllByRecursion (AreFew leaves values_in) rows
few_rows [] all = tt
few_rows (row ∷ rows) all = (few_each leaves_of count_in row all.0, few_rows rows all.1)

few_values : Holds IsFew
few_values = record {
  number = λ n. let a : length (leaves_of (trees.Number n)) ≡ 0 = ap length (number_leaves n) in omega (arith, a);
  text = λ bytes.
      let a : length (leaves_of (trees.Text bytes)) ≡ 1 = ap length (text_leaves bytes) in
      let b : count_in (trees.Text bytes) ≡ 1 = ap count_in (sym (trees.rolls-Text bytes)) ∙ fold-roll-Tree ℕ count_step (Tree-F.Text bytes) in
      omega (arith, a, b);
  group = λ numbers. let a : length (leaves_of (trees.Group numbers)) ≡ 0 = ap length (group_leaves numbers) in omega (arith, a);
  rows = λ rows all.
      let a : length (leaves_of (trees.Rows rows)) ≡ length (flat_map leaves rows) = ap length (rows_leaves rows) in
      let b = count_rows rows in
      let c = few_each leaves values_in rows (few_rows rows all) in
      omega (arith, a, b, c);
  choice = λ name row all.
      let a : length (leaves_of (trees.Choice name row)) ≡ length (leaves row) = ap length (choice_leaves name row) in
      let b = count_choice name row in
      let c = few_each leaves_of count_in row all in
      omega (arith, a, b, c);
}

few_leaves : (row : List Tree) → length (leaves row) ≤ values_in row
few_leaves row = few_each leaves_of count_in row (all row)
  where
    all : (values : List Tree) → AllByRecursion IsFew values
    all [] = tt
    all (value ∷ values) = (each_value IsFew few_values value, all values)

-- the leaves of a row that bytes tell
pub few_told : (fields : Option PlainBody) (known : Facts) (bytes : List ℕ) (row : List Tree) → (body : PlainBody) × IsTree fields known bytes body row → length (leaves row) ≤ 1048576
few_told fields known bytes row (body, tree) = let a = few_leaves row in let b : values_in row ≤ 1048576 = tree.told.1.few in omega (arith, a, b)
