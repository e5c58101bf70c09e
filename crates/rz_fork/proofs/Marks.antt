-- Marks of ids, and codes of types that differ.
use Rattle.std.proofs.Common.{◌≡◌, ◌≢◌, ◌==◌, ◌||◌, Bool, true, false, ℕ, zero, suc, ◌+◌, ◌<◌, List, [], ◌∷◌, ◌++◌, Some, None, drop, map, set, replicate, length, get_or, slice_get, eqb, ap, sym, refl, subst, ◌∙◌, append_assoc, add-one, arith}
use Rattle.std.proofs.lemmas.Bool.{eq-eqb, ne_eqb, true≢false}
use Rattle.std.proofs.lemmas.Bool.Decides.{nat_tests}
use Rattle.std.proofs.lemmas.List.{get_or-set_same, get_or-set_other, at_drop_more}
use Rattle.std.proofs.lemmas.Option.{slice_get_within, get_or_from_slice_get}
use Rattle.std.specs.List.{list_any, IsDistinct, AllByRecursion}
use Rattle.std.proofs.lemmas.List.Sorted.{IsPermutation-sym}
use Rattle.std.proofs.lemmas.Map.Keys.{IsDistinct-IsPermutation}
use Rattle.std.specs.List.Sorted.{IsPermutation, IsStrictlyIncreasing}
use Rattle.rz_core.specs.Lists.{or_else, first_in}
use Rattle.rz_fork.specs.declared.layout.Reference.{Reference}
use Rattle.rz_fork.specs.declared.layout.TypeEntry.{TypeEntry}
use Rattle.rz_fork.specs.declared.layout.Outline.{Outline}
use Rattle.rz_fork.specs.Layout.{references}
use Rattle.rz_fork.specs.Rules.{id_rule, type_rule, broken, fault, Id}
use Rattle.rz_fork.specs.Code.{in_type}

-- no marks
pub unmarked : (n id : ℕ) → get_or (replicate n false) id false ≡ false
unmarked zero id = refl
unmarked (suc n) zero = refl
unmarked (suc n) (suc id) = unmarked n id

module _ (seen : List Bool) (r : Reference) (within : r.id < length seen) where
  same_id : (id : ℕ) → (r.id == id) ≡ true → id ≡ r.id
  same_id id same = grind (arith, nat_tests)

  other_id : (id : ℕ) → (r.id == id) ≡ false → id ≢ r.id
  other_id id other is = true≢false (sym (eq-eqb r.id id (sym is)) ∙ other)

  -- the id of one reference more is clear, or one that follows has it
  clear_by : (later : List Reference) (id : ℕ) (b : Bool) → (r.id == id) ≡ b → list_any (λ x. x.id == id) later ≡ false
      → ((b || list_any (λ x. x.id == id) later) ≡ false → get_or seen id false ≡ false) → get_or (set seen r.id false) id false ≡ false
  clear_by later id true same none clear =
      ap (λ (i : ℕ). get_or (set seen r.id false) i false) (same_id id same) ∙ get_or-set_same seen r.id false false within
  clear_by later id false other none clear = get_or-set_other seen r.id id false false (other_id id other) ∙ clear none

  pub clear_more : (rs : List Reference) (k : ℕ) → slice_get rs k ≡ Some r
      → ((id : ℕ) → list_any (λ x. x.id == id) (drop k rs) ≡ false → get_or seen id false ≡ false)
      → (id : ℕ) → list_any (λ x. x.id == id) (drop (k + 1) rs) ≡ false → get_or (set seen r.id false) id false ≡ false
  clear_more rs k is clear id none =
      clear_by (drop (k + 1) rs) id (r.id == id) refl none
      (λ no. clear id (at_drop_more (list_any (λ x. x.id == id)) rs k r (slice_get_within rs k r is)
      ∙ ap (λ (x : Reference). (x.id == id) || list_any (λ x. x.id == id) (drop (k + 1) rs)) (get_or_from_slice_get rs k r r is) ∙ no))

-- the rule on the ids of a type
pub ids_in : (bytes : List ℕ) (o : Outline) (t : TypeEntry) → in_type Id bytes o t ≡ first_in id_rule [] (references bytes t)
unfolding in_type
ids_in bytes o t = refl

-- each number but the last is below the next
abbrev Rises : List ℕ → Type 0
Rises xs = (k : ℕ) → suc k < length xs → get_or xs k 0 < get_or xs (suc k) 0

skip_one : (x y : ℕ) (ys : List ℕ) → Rises (x ∷ y ∷ ys) → Rises (x ∷ ys)
skip_one x y [] rises k within = absurd (omega arith)
skip_one x y (z ∷ zs) rises zero within = omega (arith, rises 0 (omega arith), rises 1 (omega arith))
skip_one x y ys rises (suc k) within = rises (suc (suc k)) (omega arith)

all_above : (x : ℕ) (ys : List ℕ) → Rises (x ∷ ys) → AllByRecursion (λ y. eqb x y ≡ false) ys
all_above x [] rises = tt
all_above x (y ∷ ys) rises = (ne_eqb x y (λ same. omega (arith, same, rises 0 (omega arith))), all_above x ys (skip_one x y ys rises))

distinct_from_rising : (xs : List ℕ) → Rises xs → IsDistinct eqb xs
unfolding IsDistinct
distinct_from_rising [] rises = tt
distinct_from_rising (x ∷ xs) rises = (all_above x xs rises, distinct_from_rising xs (λ k within. rises (suc k) (omega arith)))

-- numbers that rise once they are sorted differ
pub distinct_from_sorted : (xs sorted same : List ℕ) → IsPermutation xs sorted → xs ≡ same → IsStrictlyIncreasing sorted → IsDistinct eqb same
distinct_from_sorted xs sorted same moved is rises =
    subst (λ (l : List ℕ). IsDistinct eqb l) is
    (IsDistinct-IsPermutation eqb flips sorted xs (IsPermutation-sym xs sorted moved) (distinct_from_rising sorted each))
  where
    flips : (x y : ℕ) → eqb x y ≡ eqb y x
    flips x y = grind (arith, nat_tests)

    each : Rises sorted
    each k within = subst (λ (n : ℕ). get_or sorted k 0 < get_or sorted n 0) (add-one k) (rises k (omega (arith, within)))

-- codes that differ
abbrev pub codes : List TypeEntry → List ℕ
codes ts = map (λ t. t.code) ts

among : (P : ℕ → Type 0) (front : List TypeEntry) (t : TypeEntry) (ts : List TypeEntry) → AllByRecursion P (codes (front ++ t ∷ ts)) → P t.code
among P [] t ts all = all.0
among P (b ∷ front) t ts all = among P front t ts all.1

apart : (front : List TypeEntry) (t : TypeEntry) (ts : List TypeEntry) → IsDistinct eqb (codes (front ++ t ∷ ts)) → list_any (λ b. b.code == t.code) front ≡ false
unfolding IsDistinct
apart [] t ts differ = refl
apart (b ∷ front) t ts differ = λ i. among (λ y. eqb b.code y ≡ false) front t ts differ.0 i || apart front t ts differ.1 i

pub none_repeated : (front ts : List TypeEntry) → IsDistinct eqb (codes (front ++ ts)) → first_in type_rule front ts ≡ None
none_repeated front [] differ = refl
none_repeated front (t ∷ ts) differ =
    let new : type_rule front t ≡ None = ap (λ (b : Bool). broken b (fault 410 t.place t.code)) (apart front t ts differ) in
    ap (λ o. or_else o (first_in type_rule (front ++ t ∷ []) ts)) new
    ∙ none_repeated (front ++ t ∷ []) ts (subst (λ (l : List TypeEntry). IsDistinct eqb (codes l)) (sym (append_assoc front (t ∷ []) ts)) differ)
