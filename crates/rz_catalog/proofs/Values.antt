-- Values without their texts, and what they are values of.
use Rattle.std.proofs.Common.{◌≡◌, ℕ, List, [], ◌∷◌, map, sym, ap, subst, ◌∙◌}
use Rattle.rz_core.specs.declared.resource.Word.{Word}
use Rattle.rz_types_fields.specs.declared.tree.Tree.{map-Tree, out-Tree, roll-out-Tree, roll-Tree, Tree}
use Rattle.rz_types_fields.specs.declared.tree.Tree.TheFolds.{fold_out-Tree, fold-roll-Tree}
use Rattle.rz_types_fields.specs.declared.tree.Tree.TheOpen.{Tree-F}
use Rattle.rz_types_fields.specs.declared.tree.Tree.TheVariants as trees
use Rattle.rz_catalog.specs.Leaves.{blank, blank_of, blank_step, leaves_of, leaves_step}

abbrev blank_layer : Tree-F Tree → Tree-F Tree
blank_layer (Tree-F.Number number) = Tree-F.Number number
blank_layer (Tree-F.Text bytes) = Tree-F.Text []
blank_layer (Tree-F.Group numbers) = Tree-F.Group numbers
blank_layer (Tree-F.Rows rows) = Tree-F.Rows (map blank rows)
blank_layer (Tree-F.Choice name row) = Tree-F.Choice name (blank row)

layer_blank : (value : Tree) → out-Tree (blank_of value) ≡ blank_layer (out-Tree value)
layer_blank value = ap out-Tree (fold_out-Tree Tree blank_step value) ∙ by (out-Tree value)
  where
    by : (layer : Tree-F Tree) → out-Tree (blank_step (map-Tree Tree Tree blank_of layer)) ≡ blank_layer layer
    by (Tree-F.Number number) = trees.outs-Number number
    by (Tree-F.Text bytes) = trees.outs-Text []
    by (Tree-F.Group numbers) = trees.outs-Group numbers
    by (Tree-F.Rows rows) = trees.outs-Rows (map blank rows)
    by (Tree-F.Choice name row) = trees.outs-Choice name (blank row)

-- two values are the same but for their texts
abbrev pub AreAlike : Tree-F Tree → Tree-F Tree → Type 0
AreAlike (Tree-F.Number m) (Tree-F.Number n) = m ≡ n
AreAlike (Tree-F.Text bytes) (Tree-F.Text others) = Unit {0}
AreAlike (Tree-F.Group numbers) (Tree-F.Group others) = numbers ≡ others
AreAlike (Tree-F.Rows rows) (Tree-F.Rows others) = map blank rows ≡ map blank others
AreAlike (Tree-F.Choice name row) (Tree-F.Choice own other) = (name ≡ own) × (blank row ≡ blank other)
AreAlike layer other = ⊥

layers_alike : (layer other : Tree-F Tree) → blank_layer layer ≡ blank_layer other → AreAlike layer other
layers_alike (Tree-F.Number m) (Tree-F.Number n) is = cc
layers_alike (Tree-F.Text bytes) (Tree-F.Text others) is = tt
layers_alike (Tree-F.Group numbers) (Tree-F.Group others) is = cc
layers_alike (Tree-F.Rows rows) (Tree-F.Rows others) is = cc
layers_alike (Tree-F.Choice name row) (Tree-F.Choice own other) is = (cc, cc)
layers_alike layer other is = absurd cc

pub alike : (value other : Tree) → blank_of value ≡ blank_of other → AreAlike (out-Tree value) (out-Tree other)
alike value other is = layers_alike (out-Tree value) (out-Tree other) (sym (layer_blank value) ∙ ap out-Tree is ∙ layer_blank other)

module _ (value : Tree) where
  abbrev IsLike : Tree-F Tree → Type 0
  IsLike layer = AreAlike (out-Tree value) layer

  pub like_number : (n : ℕ) → blank_of value ≡ blank_of (trees.Number n) → value ≡ trees.Number n
  like_number n is = by (out-Tree value) (sym (roll-out-Tree value)) (subst IsLike (trees.outs-Number n) (alike value (trees.Number n) is))
    where
      by : (layer : Tree-F Tree) → value ≡ roll-Tree layer → AreAlike layer (Tree-F.Number n) → value ≡ trees.Number n
      by (Tree-F.Number own) rolled same = rolled ∙ trees.rolls-Number own ∙ ap trees.Number same
      by layer rolled same = absurd same

  pub like_text : (bytes : List ℕ) → blank_of value ≡ blank_of (trees.Text bytes) → (own : List ℕ) × (value ≡ trees.Text own)
  like_text bytes is = by (out-Tree value) (sym (roll-out-Tree value)) (subst IsLike (trees.outs-Text bytes) (alike value (trees.Text bytes) is))
    where
      by : (layer : Tree-F Tree) → value ≡ roll-Tree layer → AreAlike layer (Tree-F.Text bytes) → (own : List ℕ) × (value ≡ trees.Text own)
      by (Tree-F.Text own) rolled same = (own, rolled ∙ trees.rolls-Text own)
      by layer rolled same = absurd same

  pub like_group : (numbers : List ℕ) → blank_of value ≡ blank_of (trees.Group numbers) → value ≡ trees.Group numbers
  like_group numbers is = by (out-Tree value) (sym (roll-out-Tree value)) (subst IsLike (trees.outs-Group numbers) (alike value (trees.Group numbers) is))
    where
      by : (layer : Tree-F Tree) → value ≡ roll-Tree layer → AreAlike layer (Tree-F.Group numbers) → value ≡ trees.Group numbers
      by (Tree-F.Group own) rolled same = rolled ∙ trees.rolls-Group own ∙ ap trees.Group same
      by layer rolled same = absurd same

  pub like_rows : (rows : List (List Tree)) → blank_of value ≡ blank_of (trees.Rows rows) → (own : List (List Tree)) × (value ≡ trees.Rows own) × (map blank own ≡ map blank rows)
  like_rows rows is = by (out-Tree value) (sym (roll-out-Tree value)) (subst IsLike (trees.outs-Rows rows) (alike value (trees.Rows rows) is))
    where
      by : (layer : Tree-F Tree) → value ≡ roll-Tree layer → AreAlike layer (Tree-F.Rows rows) → (own : List (List Tree)) × (value ≡ trees.Rows own) × (map blank own ≡ map blank rows)
      by (Tree-F.Rows own) rolled same = (own, rolled ∙ trees.rolls-Rows own, same)
      by layer rolled same = absurd same

  pub like_choice : (name : Word) (row : List Tree) → blank_of value ≡ blank_of (trees.Choice name row) → (own : List Tree) × (value ≡ trees.Choice name own) × (blank own ≡ blank row)
  like_choice name row is = by (out-Tree value) (sym (roll-out-Tree value)) (subst IsLike (trees.outs-Choice name row) (alike value (trees.Choice name row) is))
    where
      by : (layer : Tree-F Tree) → value ≡ roll-Tree layer → AreAlike layer (Tree-F.Choice name row) → (own : List Tree) × (value ≡ trees.Choice name own) × (blank own ≡ blank row)
      by (Tree-F.Choice other own) rolled same = (own, rolled ∙ trees.rolls-Choice other own ∙ ap (λ (w : Word). trees.Choice w own) same.0, same.1)
      by layer rolled same = absurd same

pub number_leaves : (n : ℕ) → leaves_of (trees.Number n) ≡ []
number_leaves n = ap leaves_of (sym (trees.rolls-Number n)) ∙ fold-roll-Tree (List (List ℕ)) leaves_step (Tree-F.Number n)

pub text_blank : (bytes : List ℕ) → blank_of (trees.Text bytes) ≡ trees.Text []
text_blank bytes = ap blank_of (sym (trees.rolls-Text bytes)) ∙ fold-roll-Tree Tree blank_step (Tree-F.Text bytes)

pub text_leaves : (bytes : List ℕ) → leaves_of (trees.Text bytes) ≡ bytes ∷ []
text_leaves bytes = ap leaves_of (sym (trees.rolls-Text bytes)) ∙ fold-roll-Tree (List (List ℕ)) leaves_step (Tree-F.Text bytes)

pub group_leaves : (numbers : List ℕ) → leaves_of (trees.Group numbers) ≡ []
group_leaves numbers = ap leaves_of (sym (trees.rolls-Group numbers)) ∙ fold-roll-Tree (List (List ℕ)) leaves_step (Tree-F.Group numbers)
