-- Of two values, and of two rows, it is decided whether they are the same.
use Rattle.std.proofs.Common.{◌≡◌, ℕ, List, [], ◌∷◌, refl, sym, ap, ◌∙◌}
use Rattle.std.proofs.Math.Decide.{map_dec, ℕ_discrete}
use Rattle.std.specs.List.{AllByRecursion}
use Rattle.rz_core.proofs.EveryCut.{both, head, tail}
use Rattle.rz_core.specs.declared.resource.Word.{Word}
use Rattle.rz_types_fields.specs.declared.tree.Tree.{out-Tree, roll-out-Tree, roll-Tree, Tree}
use Rattle.rz_types_fields.specs.declared.tree.Tree.TheOpen.{Tree-F}
use Rattle.rz_types_fields.specs.declared.tree.Tree.TheVariants as trees
use Rattle.rz_catalog.proofs.EachValue.{each_value, Holds}

abbrev pub IsKnown : {X : Type 0} → X → Type 0
IsKnown {X} x = (other : X) → Dec (x ≡ other)

-- Lists.

pub list_known : {X : Type 0} (xs : List X) → AllByRecursion (IsKnown {X = X}) xs → IsKnown xs
list_known [] all [] = yes refl
list_known [] all (y ∷ ys) = no (λ is. cc is)
list_known (x ∷ xs) all [] = no (λ is. cc is)
list_known (x ∷ xs) all (y ∷ ys) = map_dec (λ same. (λ i. same.0 i ∷ same.1 i)) (λ is. (head x y xs ys is, tail x y xs ys is)) (both (all.0 y) (list_known xs all.1 ys))

numbers_known : (numbers : List ℕ) → IsKnown numbers
numbers_known numbers = list_known numbers (all numbers)
  where
    all : (numbers : List ℕ) → AllByRecursion (IsKnown {X = ℕ}) numbers
    all [] = tt
    all (n ∷ numbers) = (ℕ_discrete n, all numbers)

word_known : (name : Word) → IsKnown name
word_known name other = map_dec (λ same. (λ i. record { bytes = same i })) (ap (λ (w : Word). w.bytes)) (numbers_known name.bytes other.bytes)

-- Values.

module _ (value other : Tree) (own : Tree-F Tree) (is : out-Tree value ≡ own) where
  layer_known : Dec (own ≡ out-Tree other) → Dec (value ≡ other)
  layer_known = map_dec (λ same. sym (roll-out-Tree value) ∙ ap roll-Tree (is ∙ same) ∙ roll-out-Tree other) (λ same. sym is ∙ ap out-Tree same)

number_layer : (n : ℕ) (layer : Tree-F Tree) → Dec (Tree-F.Number n ≡ layer)
number_layer n (Tree-F.Number m) = map_dec (ap Tree-F.Number) (λ is. cc is) (ℕ_discrete n m)
number_layer n layer = no (λ is. cc is)

text_layer : (bytes : List ℕ) (layer : Tree-F Tree) → Dec (Tree-F.Text bytes ≡ layer)
text_layer bytes (Tree-F.Text others) = map_dec (ap Tree-F.Text) (λ is. cc is) (numbers_known bytes others)
text_layer bytes layer = no (λ is. cc is)

group_layer : (numbers : List ℕ) (layer : Tree-F Tree) → Dec (Tree-F.Group numbers ≡ layer)
group_layer numbers (Tree-F.Group others) = map_dec (ap Tree-F.Group) (λ is. cc is) (numbers_known numbers others)
group_layer numbers layer = no (λ is. cc is)

rows_layer : (rows : List (List Tree)) → IsKnown rows → (layer : Tree-F Tree) → Dec (Tree-F.Rows rows ≡ layer)
rows_layer rows known (Tree-F.Rows others) = map_dec (ap Tree-F.Rows) (λ is. cc is) (known others)
rows_layer rows known layer = no (λ is. cc is)

choice_layer : (name : Word) (row : List Tree) → IsKnown row → (layer : Tree-F Tree) → Dec (Tree-F.Choice name row ≡ layer)
choice_layer name row known (Tree-F.Choice own other) = map_dec (λ same. (λ i. Tree-F.Choice (same.0 i) (same.1 i))) (λ is. (cc is, cc is)) (both (word_known name own) (known other))
choice_layer name row known layer = no (λ is. cc is)

values_known : Holds (IsKnown {X = Tree})
values_known = record {
  number = λ n other. layer_known (trees.Number n) other (Tree-F.Number n) (trees.outs-Number n) (number_layer n (out-Tree other));
  text = λ bytes other. layer_known (trees.Text bytes) other (Tree-F.Text bytes) (trees.outs-Text bytes) (text_layer bytes (out-Tree other));
  group = λ numbers other. layer_known (trees.Group numbers) other (Tree-F.Group numbers) (trees.outs-Group numbers) (group_layer numbers (out-Tree other));
  rows = λ rows all other. layer_known (trees.Rows rows) other (Tree-F.Rows rows) (trees.outs-Rows rows) (rows_layer rows (list_known rows (of_rows rows all)) (out-Tree other));
  choice = λ name row all other. layer_known (trees.Choice name row) other (Tree-F.Choice name row) (trees.outs-Choice name row) (choice_layer name row (list_known row all) (out-Tree other));
}
  where
    of_rows : (rows : List (List Tree)) → AllByRecursion (AllByRecursion (IsKnown {X = Tree})) rows → AllByRecursion (IsKnown {X = List Tree}) rows
    of_rows [] all = tt
    of_rows (row ∷ rows) all = (list_known row all.0, of_rows rows all.1)

pub row_known : (row other : List Tree) → Dec (row ≡ other)
row_known row = list_known row (all row)
  where
    all : (row : List Tree) → AllByRecursion (IsKnown {X = Tree}) row
    all [] = tt
    all (value ∷ row) = (each_value IsKnown values_known value, all row)
