-- There is exactly one row that is another but for its texts, which are given.
use Rattle.std.proofs.Common.{◌≡◌, ℕ, ◌≤◌, List, [], ◌∷◌, ◌++◌, map, length, refl, sym, ap, subst, ◌∙◌, arith}
use Rattle.std.specs.List.{flat_map, AllByRecursion}
use Rattle.std.proofs.lemmas.List.{append-nil, append_assoc, length-append}
use Rattle.rz_types_fields.specs.declared.tree.Tree.{Tree}
use Rattle.rz_types_fields.specs.declared.tree.Tree.TheVariants as trees
use Rattle.rz_catalog.specs.Put.{row_leaves}
use Rattle.rz_catalog.specs.Leaves.{blank, blank_of, leaves, leaves_of, HasTexts}
use Rattle.rz_catalog.proofs.EachValue.{each_value, Holds}
use Rattle.rz_catalog.proofs.Places.{choice_blank, rows_blank}
use Rattle.rz_catalog.proofs.Trees.{choice_leaves, rows_leaves}
use Rattle.rz_catalog.proofs.Values.{group_leaves, like_choice, like_group, like_number, like_rows, like_text, number_leaves, text_blank, text_leaves}

-- At most one.

module _ {X Y B : Type 0} (f : X → List Y) (g : X → B) where
  -- of two that are alike with the same texts in front of others both are the same, and so are the others
  abbrev pub IsOne : X → Type 0
  IsOne x = (other : X) (rest more : List Y) → g x ≡ g other → f x ++ rest ≡ f other ++ more → (x ≡ other) × (rest ≡ more)

  pub each_one : (xs : List X) → AllByRecursion IsOne xs → (others : List X) (rest more : List Y) → map g xs ≡ map g others → flat_map f xs ++ rest ≡ flat_map f others ++ more
      → (xs ≡ others) × (rest ≡ more)
  each_one [] all [] rest more same are = (refl, are)
  each_one [] all (other ∷ others) rest more same are = absurd cc
  each_one (x ∷ xs) all [] rest more same are = absurd cc
  each_one (x ∷ xs) all (other ∷ others) rest more same are =
      let first = all.0 other (flat_map f xs ++ rest) (flat_map f others ++ more) (cc) (sym (append_assoc (f x) (flat_map f xs) rest) ∙ are ∙ append_assoc (f other) (flat_map f others) more) in
      let behind = each_one xs all.1 others rest more (cc) first.1 in
      (cc, behind.1)

abbrev IsOneValue : Tree → Type 0
IsOneValue = IsOne leaves_of blank_of

same_front : {Y : Type 0} (a b c d rest more : List Y) → a ≡ c → b ≡ d → a ++ rest ≡ b ++ more → c ++ rest ≡ d ++ more
same_front a b c d rest more same also is = cc

module _ (other : Tree) (rest more : List (List ℕ)) where
  -- the value has these texts, and so has the other one
  abbrev HaveTexts : Tree → List (List ℕ) → List (List ℕ) → Type 0
  HaveTexts value texts others = (leaves_of value ≡ texts) × (leaves_of other ≡ others)

  apart : (value : Tree) (texts others : List (List ℕ)) → HaveTexts value texts others → leaves_of value ++ rest ≡ leaves_of other ++ more → texts ++ rest ≡ others ++ more
  apart value texts others have are = same_front (leaves_of value) (leaves_of other) texts others rest more have.0 have.1 are

values_one : Holds IsOneValue
values_one = record {
  number = λ n other rest more same are.
      let is = like_number other n (sym same) in
      (sym is, apart other rest more (trees.Number n) [] [] (number_leaves n, ap leaves_of is ∙ number_leaves n) are);
  text = λ bytes other rest more same are.
      let like = like_text other bytes (sym same) in
      let both : bytes ∷ rest ≡ like.0 ∷ more = apart other rest more (trees.Text bytes) (bytes ∷ []) (like.0 ∷ []) (text_leaves bytes, ap leaves_of like.1 ∙ text_leaves like.0) are in
      let text : bytes ≡ like.0 = cc in
      (ap trees.Text text ∙ sym like.1, cc);
  group = λ numbers other rest more same are.
      let is = like_group other numbers (sym same) in
      (sym is, apart other rest more (trees.Group numbers) [] [] (group_leaves numbers, ap leaves_of is ∙ group_leaves numbers) are);
  rows = λ rows all other rest more same are.
      let like = like_rows other rows (sym same) in
      let both = apart other rest more (trees.Rows rows) (row_leaves rows) (row_leaves like.0) (rows_leaves rows, ap leaves_of like.1 ∙ rows_leaves like.0) are in
      let one = each_one leaves blank rows (of_rows rows all) like.0 rest more (sym like.2) both in
      (ap trees.Rows one.0 ∙ sym like.1, one.1);
  choice = λ name row all other rest more same are.
      let like = like_choice other name row (sym same) in
      let both = apart other rest more (trees.Choice name row) (leaves row) (leaves like.0) (choice_leaves name row, ap leaves_of like.1 ∙ choice_leaves name like.0) are in
      let one = each_one leaves_of blank_of row all like.0 rest more (sym like.2) both in
      (ap (trees.Choice name) one.0 ∙ sym like.1, one.1);
}
  where
    of_rows : (rows : List (List Tree)) → AllByRecursion (AllByRecursion IsOneValue) rows → AllByRecursion (IsOne leaves blank) rows
    of_rows [] all = tt
    of_rows (row ∷ rows) all = (each_one leaves_of blank_of row all.0, of_rows rows all.1)

of_row : {P : Tree → Type 0} → ((value : Tree) → P value) → (row : List Tree) → AllByRecursion P row
of_row each [] = tt
of_row each (value ∷ row) = (each value, of_row each row)

pub one_row : (new other : List Tree) → blank new ≡ blank other → leaves new ≡ leaves other → new ≡ other
one_row new other same are =
    (each_one leaves_of blank_of new (of_row (each_value IsOneValue values_one) new) other [] [] same (ap (λ (l : List (List ℕ)). l ++ []) are)).0

pub one_changed : (texts : List (List ℕ)) (old new other : List Tree) → HasTexts texts old new → HasTexts texts old other → new ≡ other
one_changed texts old new other is also = one_row new other (is.same ∙ sym also.same) (is.are ∙ sym also.are)

pub own_texts : (old new : List Tree) → HasTexts (leaves old) old new → new ≡ old
own_texts old new is = one_row new old is.same is.are

-- At least one.

module _ {X Y B : Type 0} (f : X → List Y) (g : X → B) where
  -- one that is alike with the first of these texts, if there are enough, and the texts that are left
  pub record HasNew (x : X) (texts : List Y) : Type 0 where
    pub new : X
    pub rest : List Y
    pub same : g new ≡ g x
    pub many : length (f new) ≡ length (f x)
    pub whole : f new ++ rest ≡ texts

  abbrev pub TakesTexts : X → Type 0
  TakesTexts x = (texts : List Y) → length (f x) ≤ length texts → HasNew x texts

module _ {X Y B : Type 0} (f : X → List Y) (g : X → B) where
  left : (x : X) (xs : List X) (texts : List Y) → length (flat_map f (x ∷ xs)) ≤ length texts → (first : HasNew f g x texts) → length (flat_map f xs) ≤ length first.rest
  left x xs texts enough first =
      let a = length-append (f x) (flat_map f xs) in
      let b = length-append (f first.new) first.rest in
      let c : length (f first.new ++ first.rest) ≡ length texts = ap length first.whole in
      omega (arith, enough, first.many, a, b, c)

  pub each_takes : (xs : List X) → AllByRecursion (TakesTexts f g) xs → TakesTexts (flat_map f) (map g) xs
  each_takes [] all texts enough = record { new = []; rest = texts; same = refl; many = refl; whole = refl }
  each_takes (x ∷ xs) all texts enough =
      let first = all.0 texts (omega (arith, enough, length-append (f x) (flat_map f xs))) in
      let behind = each_takes xs all.1 first.rest (left x xs texts enough first) in
      record {
        new = first.new ∷ behind.new;
        rest = behind.rest;
        same = (λ i. first.same i ∷ behind.same i);
        many = omega (arith, first.many, behind.many, length-append (f x) (flat_map f xs), length-append (f first.new) (flat_map f behind.new));
        whole = append_assoc (f first.new) (flat_map f behind.new) behind.rest ∙ ap (λ rest. f first.new ++ rest) behind.whole ∙ first.whole;
      }

abbrev Takes : Tree → Type 0
Takes = TakesTexts leaves_of blank_of

-- a value of which the texts are known, as is that which takes its place
taken : (old new : Tree) (own others rest texts : List (List ℕ)) → leaves_of old ≡ own → leaves_of new ≡ others → blank_of new ≡ blank_of old → length others ≡ length own
    → others ++ rest ≡ texts → HasNew leaves_of blank_of old texts
taken old new own others rest texts is also same many whole = record {
  new = new;
  rest = rest;
  same = same;
  many = ap length also ∙ many ∙ sym (ap length is);
  whole = ap (λ (l : List (List ℕ)). l ++ rest) also ∙ whole;
}

text_takes : (bytes : List ℕ) → Takes (trees.Text bytes)
text_takes bytes [] enough = absurd (let n : length (leaves_of (trees.Text bytes)) ≡ 1 = ap length (text_leaves bytes) in omega (arith, enough, n))
text_takes bytes (first ∷ rest) enough =
    taken (trees.Text bytes) (trees.Text first) (bytes ∷ []) (first ∷ []) rest (first ∷ rest) (text_leaves bytes) (text_leaves first) (text_blank first ∙ sym (text_blank bytes)) refl refl

values_take : Holds Takes
values_take = record {
  number = λ n texts enough. taken (trees.Number n) (trees.Number n) [] [] texts texts (number_leaves n) (number_leaves n) refl refl refl;
  text = text_takes;
  group = λ numbers texts enough. taken (trees.Group numbers) (trees.Group numbers) [] [] texts texts (group_leaves numbers) (group_leaves numbers) refl refl refl;
  rows = λ rows all texts enough.
      let it = each_takes leaves blank rows (of_rows rows all) texts (subst (λ (l : List (List ℕ)). length l ≤ length texts) (rows_leaves rows) enough) in
      taken (trees.Rows rows) (trees.Rows it.new) (row_leaves rows) (row_leaves it.new) it.rest texts (rows_leaves rows) (rows_leaves it.new)
      (rows_blank it.new ∙ ap trees.Rows it.same ∙ sym (rows_blank rows)) it.many it.whole;
  choice = λ name row all texts enough.
      let it = each_takes leaves_of blank_of row all texts (subst (λ (l : List (List ℕ)). length l ≤ length texts) (choice_leaves name row) enough) in
      taken (trees.Choice name row) (trees.Choice name it.new) (leaves row) (leaves it.new) it.rest texts (choice_leaves name row) (choice_leaves name it.new)
      (choice_blank name it.new ∙ ap (trees.Choice name) it.same ∙ sym (choice_blank name row)) it.many it.whole;
}
  where
    of_rows : (rows : List (List Tree)) → AllByRecursion (AllByRecursion Takes) rows → AllByRecursion (TakesTexts leaves blank) rows
    of_rows [] all = tt
    of_rows (row ∷ rows) all = (each_takes leaves_of blank_of row all.0, of_rows rows all.1)

whole_front : {Y : Type 0} (front rest texts : List Y) → front ++ rest ≡ texts → length texts ≤ length front → front ≡ texts
whole_front front [] texts is few = sym (append-nil front) ∙ is
whole_front front (y ∷ rest) texts is few =
    absurd (let n = length-append front (y ∷ rest) in let m : length (front ++ y ∷ rest) ≡ length texts = ap length is in omega (arith, n, m, few))

pub every_changed : (texts : List (List ℕ)) (old : List Tree) → length texts ≡ length (leaves old) → (new : List Tree) × HasTexts texts old new
every_changed texts old many =
    let it = each_takes leaves_of blank_of old (of_row (each_value Takes values_take) old) texts (omega (arith, many)) in
    (it.new, record { same = it.same; are = whole_front (leaves it.new) it.rest texts it.whole (omega (arith, many, it.many)) })
