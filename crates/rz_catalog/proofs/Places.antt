-- Texts in the places of a row, one item after the other.
use Rattle.std.proofs.Common.{◌≡◌, ℕ, ◌+◌, ◌≤◌, List, [], ◌∷◌, ◌++◌, map, take, drop, length, Some, sym, ap, ◌∙◌, arith}
use Rattle.std.specs.Prelude.{slice_get}
use Rattle.std.specs.List.{flat_map}
use Rattle.std.proofs.lemmas.Grind.{flat_map-append}
use Rattle.std.proofs.lemmas.List.{append-nil, append_assoc, length-append, map-append, take-append-drop}
use Rattle.rz_core.proofs.Lists.{take_at_more}
use Rattle.rz_core.specs.declared.resource.Word.{Word}
use Rattle.rz_types_fields.specs.declared.tree.Tree.{Tree}
use Rattle.rz_types_fields.specs.declared.tree.Tree.TheFolds.{fold-roll-Tree}
use Rattle.rz_types_fields.specs.declared.tree.Tree.TheOpen.{Tree-F}
use Rattle.rz_types_fields.specs.declared.tree.Tree.TheVariants as trees
use Rattle.rz_types_fields.specs.declared.tree.Tree.TheVariants.{rolls-Choice, rolls-Rows}
use Rattle.rz_catalog.specs.Leaves.{blank, blank_of, blank_step}
use Rattle.rz_catalog.specs.Put.{blank_rows}

module _ {X Y : Type 0} (f : X → List Y) where
  pub one_more : (xs : List X) (k : ℕ) (x : X) → slice_get xs k ≡ Some x → flat_map f (take (k + 1) xs) ≡ flat_map f (take k xs) ++ f x
  one_more xs k x is = ap (flat_map f) (take_at_more xs k x is) ∙ flat_map-append f (take k xs) (x ∷ []) ∙ ap (λ back. flat_map f (take k xs) ++ back) (append-nil (f x))

  pub pushed : (xs : List X) (x : X) → flat_map f (xs ++ x ∷ []) ≡ flat_map f xs ++ f x
  pushed xs x = flat_map-append f xs (x ∷ []) ∙ ap (λ back. flat_map f xs ++ back) (append-nil (f x))

  all_of : (xs : List X) (k : ℕ) → flat_map f xs ≡ flat_map f (take k xs) ++ flat_map f (drop k xs)
  all_of xs k = ap (flat_map f) (sym (take-append-drop k xs)) ∙ flat_map-append f (take k xs) (drop k xs)

  -- what is left of the texts is enough for the next item
  pub left : (xs : List X) (k : ℕ) (x : X) (front rest texts : List Y) → slice_get xs k ≡ Some x → length front ≡ length (flat_map f (take k xs)) → front ++ rest ≡ texts
      → length (flat_map f xs) ≤ length texts → length (f x) ≤ length rest
  left xs k x front rest texts is same split enough =
      let a = length-append front rest in
      let b : length (front ++ rest) ≡ length texts = ap length split in
      let c : length (flat_map f xs) ≡ length (flat_map f (take (k + 1) xs) ++ flat_map f (drop (k + 1) xs)) = ap length (all_of xs (k + 1)) in
      let d = length-append (flat_map f (take (k + 1) xs)) (flat_map f (drop (k + 1) xs)) in
      let e : length (flat_map f (take (k + 1) xs)) ≡ length (flat_map f (take k xs) ++ f x) = ap length (one_more xs k x is) in
      let g = length-append (flat_map f (take k xs)) (f x) in
      omega (arith, same, enough, a, b, c, d, e, g)

  -- the next item with its texts
  pub counted : (xs copy : List X) (k : ℕ) (x new : X) → slice_get xs k ≡ Some x → length (flat_map f copy) ≡ length (flat_map f (take k xs)) → length (f new) ≡ length (f x)
      → length (flat_map f (copy ++ new ∷ [])) ≡ length (flat_map f (take (k + 1) xs))
  counted xs copy k x new is before same =
      let a : length (flat_map f (copy ++ new ∷ [])) ≡ length (flat_map f copy ++ f new) = ap length (pushed copy new) in
      let b = length-append (flat_map f copy) (f new) in
      let c : length (flat_map f (take (k + 1) xs)) ≡ length (flat_map f (take k xs) ++ f x) = ap length (one_more xs k x is) in
      let d = length-append (flat_map f (take k xs)) (f x) in
      omega (arith, before, same, a, b, c, d)

  pub split : (copy : List X) (new : X) (rest after texts : List Y) → f new ++ after ≡ rest → flat_map f copy ++ rest ≡ texts → flat_map f (copy ++ new ∷ []) ++ after ≡ texts
  split copy new rest after texts now before =
      ap (λ front. front ++ after) (pushed copy new) ∙ append_assoc (flat_map f copy) (f new) after ∙ ap (λ back. flat_map f copy ++ back) now ∙ before

-- the shapes
pub mapped : {X Y : Type 0} (g : X → Y) (xs copy : List X) (k : ℕ) (x new : X) → slice_get xs k ≡ Some x → map g copy ≡ map g (take k xs) → g new ≡ g x
    → map g (copy ++ new ∷ []) ≡ map g (take (k + 1) xs)
mapped g xs copy k x new is before same =
    map-append g copy (new ∷ []) ∙ ap (λ front. front ++ g new ∷ []) before ∙ ap (λ one. map g (take k xs) ++ one ∷ []) same
    ∙ sym (map-append g (take k xs) (x ∷ [])) ∙ ap (map g) (sym (take_at_more xs k x is))

pub rows_blank : (rows : List (List Tree)) → blank_of (trees.Rows rows) ≡ trees.Rows (blank_rows rows)
rows_blank rows = ap blank_of (sym (rolls-Rows rows)) ∙ fold-roll-Tree Tree blank_step (Tree-F.Rows rows)

pub choice_blank : (name : Word) (row : List Tree) → blank_of (trees.Choice name row) ≡ trees.Choice name (blank row)
choice_blank name row = ap blank_of (sym (rolls-Choice name row)) ∙ fold-roll-Tree Tree blank_step (Tree-F.Choice name row)
