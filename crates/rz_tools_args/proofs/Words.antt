-- The words of items, one after the other.
use Rattle.std.proofs.Common.{◌≡◌, ℕ, suc, ◌+◌, ◌≤◌, true, false, List, [], ◌∷◌, ◌++◌, length, take, refl, sym, ap, subst, ◌∙◌, arith, append_assoc, append-nil, length-append}
use Rattle.std.specs.Prelude.{is_some}
use Rattle.std.proofs.lemmas.Bool.{or_left, or_right}
use Rattle.rz_core.proofs.EveryCut.{head, tail}
use Rattle.rz_tools_args.specs.Command.{is_place, place_item, places_of, switch_item, value_item, AreItems, IsItem, Item, On, Place, Valued}
use Rattle.rz_tools_args.specs.Held.{size_of}
use Rattle.rz_tools_args.specs.Syntax.{named, Syntax}
use Rattle.rz_tools_args.proofs.Sound.{flag_apart, is_alone, is_sound}

abbrev pub Words : Type 0
Words = List (List ℕ)

pub more : (x : List ℕ) (words : Words) → x ∷ words ≡ [] → ⊥
more x words is = cc is

-- the words of an item: one that stands alone, or two of which the first doesn't
pub data Shape (syntax : Syntax) (front : Words) (one : Item) : Type 0 where
  single : (word : List ℕ) → front ≡ word ∷ [] → is_alone syntax word ≡ true → size_of one ≡ 1 → Shape syntax front one
  double : (flag value : List ℕ) → front ≡ flag ∷ value ∷ [] → is_alone syntax flag ≡ false → size_of one ≡ 2 → Shape syntax front one

pub take_over : (front rest : Words) (n : ℕ) → take (length front + n) (front ++ rest) ≡ front ++ take n rest
take_over [] rest n = ap (λ k. take k rest) (omega arith)
take_over (x ∷ front) rest n = ap (λ k. take k (x ∷ (front ++ rest))) (shifted (length front)) ∙ ap (λ (ws : Words). x ∷ ws) (take_over front rest n)
  where
    shifted : (k : ℕ) → suc k + n ≡ suc (k + n)
    shifted k = omega arith

pub take_all : (ws : Words) → take (length ws) ws ≡ ws
take_all [] = refl
take_all (w ∷ ws) = ap (λ (vs : Words). w ∷ vs) (take_all ws)

-- an item is one word outside options at most
pub few_alone : (one : Item) → length (places_of (one ∷ [])) ≤ 1
few_alone (Place word) = omega arith
few_alone (Valued flag value) = omega arith
few_alone (On switch) = omega arith

-- the words outside options of items and of those after them
pub places_more : (items others : List Item) → places_of (items ++ others) ≡ places_of items ++ places_of others
places_more [] others = refl
places_more (Place word ∷ items) others = ap (λ (ws : Words). word ∷ ws) (places_more items others)
places_more (Valued flag value ∷ items) others = places_more items others
places_more (On switch ∷ items) others = places_more items others

module _ (syntax : Syntax) (sound : is_sound syntax ≡ true) where
  pub shape_of : (front : Words) (one : Item) → IsItem syntax front one → Shape syntax front one
  shape_of front one (place_item word is holds same) = single word is (or_left (is_place word) (is_some (named syntax.switches word)) holds) (ap size_of same)
  shape_of front one (switch_item word switch is named_so same) =
      single word is (or_right (is_place word) (is_some (named syntax.switches word)) (ap is_some named_so)) (ap size_of same)
  shape_of front one (value_item word value flag says is named_so it same) = double word value is (flag_apart syntax sound word flag named_so) (ap size_of same)

  no_both : (a b : List ℕ) → a ≡ b → is_alone syntax a ≡ true → is_alone syntax b ≡ false → ⊥
  no_both a b is holds fails = let also : is_alone syntax b ≡ true = ap (is_alone syntax) (sym is) ∙ holds in cc

  pub sized : (front : Words) (one : Item) → Shape syntax front one → length front ≡ size_of one
  sized front one (single word is holds size) = ap (λ (ws : Words). length ws) is ∙ sym size
  sized front one (double flag value is fails size) = ap (λ (ws : Words). length ws) is ∙ sym size

  -- two items at the front of the same words are the same words
  pub same_front : (f g a b : Words) (one other : Item) → Shape syntax f one → Shape syntax g other → f ++ a ≡ g ++ b → (f ≡ g) × (a ≡ b)
  same_front f g a b one other (single x is holds s) (single y also holds_too s_too) eq =
      let full : x ∷ a ≡ y ∷ b = ap (λ (ws : Words). ws ++ a) (sym is) ∙ eq ∙ ap (λ (ws : Words). ws ++ b) also in
      (is ∙ ap (λ (w : List ℕ). w ∷ []) (head x y a b full) ∙ sym also, tail x y a b full)
  same_front f g a b one other (single x is holds s) (double y v also fails s_too) eq =
      let full : x ∷ a ≡ y ∷ v ∷ b = ap (λ (ws : Words). ws ++ a) (sym is) ∙ eq ∙ ap (λ (ws : Words). ws ++ b) also in
      absurd (no_both x y (head x y a (v ∷ b) full) holds fails)
  same_front f g a b one other (double x v is fails s) (single y also holds s_too) eq =
      let full : x ∷ v ∷ a ≡ y ∷ b = ap (λ (ws : Words). ws ++ a) (sym is) ∙ eq ∙ ap (λ (ws : Words). ws ++ b) also in
      absurd (no_both y x (sym (head x y (v ∷ a) b full)) holds fails)
  same_front f g a b one other (double x v is fails s) (double y w also fails_too s_too) eq =
      let full : x ∷ v ∷ a ≡ y ∷ w ∷ b = ap (λ (ws : Words). ws ++ a) (sym is) ∙ eq ∙ ap (λ (ws : Words). ws ++ b) also in
      let rest = tail x y (v ∷ a) (w ∷ b) full in
      (is ∙ (λ i. head x y (v ∷ a) (w ∷ b) full i ∷ head v w a b rest i ∷ []) ∙ sym also, tail v w a b rest)

  some : (front : Words) (one : Item) → Shape syntax front one → (behind : Words) → front ++ behind ≡ [] → ⊥
  some front one (single x is holds s) behind eq = let full : x ∷ behind ≡ [] = ap (λ (ws : Words). ws ++ behind) (sym is) ∙ eq in cc
  some front one (double x v is fails s) behind eq = let full : x ∷ v ∷ behind ≡ [] = ap (λ (ws : Words). ws ++ behind) (sym is) ∙ eq in cc

  pub some_words : (front behind : Words) (one : Item) → IsItem syntax front one → front ++ behind ≡ [] → ⊥
  some_words front behind one is = some front one (shape_of front one is) behind

  -- an item is of one word at least, and has no more words outside options than it has words
  long : (front : Words) (one : Item) → Shape syntax front one → 1 ≤ size_of one
  long front one (single word is holds size) = omega (arith, size)
  long front one (double flag value is fails size) = omega (arith, size)

  pub some_size : (front : Words) (one : Item) → IsItem syntax front one → 1 ≤ size_of one
  some_size front one is = long front one (shape_of front one is)

  pub few_places : (words : Words) (items : List Item) → AreItems syntax words items → length (places_of items) ≤ length words
  few_places words [] are = omega arith
  few_places words (one ∷ items) (f, b, eq, is, are) =
      omega (
        arith,
        few_alone one,
        some_size f one is,
        few_places b items are,
        sized f one (shape_of f one is),
        ap (λ (ws : Words). length ws) eq,
        length-append f b,
        ap (λ (ws : Words). length ws) (places_more (one ∷ []) items),
        length-append (places_of (one ∷ [])) (places_of items),
      )

-- items after items
pub append_items : (syntax : Syntax) (front rest : Words) (items others : List Item) → AreItems syntax front items → AreItems syntax rest others
    → AreItems syntax (front ++ rest) (items ++ others)
append_items syntax front rest [] others none are = subst (λ (ws : Words). AreItems syntax (ws ++ rest) others) (sym none) are
append_items syntax front rest (one ∷ items) others (f, b, eq, is, are) behind =
    (f, b ++ rest, ap (λ (ws : Words). ws ++ rest) eq ∙ append_assoc f b rest, is, append_items syntax b rest items others are behind)

-- words that are one item
pub one_of_words : (syntax : Syntax) (front : Words) (one : Item) → IsItem syntax front one → AreItems syntax front (one ∷ [])
one_of_words syntax front one is = (front, [], sym (append-nil front), is, refl)
