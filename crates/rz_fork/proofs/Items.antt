-- Entries and references by position.
use Rattle.std.proofs.Common.{◌≡◌, ℕ, zero, suc, ◌+◌, ◌*◌, ◌<◌, List, [], ◌∷◌, ◌++◌, length, map, take, slice_get, Some, refl, ap, ◌∙◌, arith, mul-suc}
use Rattle.std.proofs.lemmas.List.{append-nil, map-append}
use Rattle.std.proofs.lemmas.List.Concat.{flat_map-append}
use Rattle.std.proofs.lemmas.List.Sums.{sum_by_push}
use Rattle.std.specs.List.{flat_map, AllByRecursion}
use Rattle.rz_core.proofs.Lists.{take_at_more}
use Rattle.rz_fork.specs.declared.layout.Outline.{Outline}
use Rattle.rz_fork.specs.declared.layout.TypeEntry.{TypeEntry}
use Rattle.rz_core.specs.Numbers.{items_from}
use Rattle.rz_fork.specs.Layout.{types_place, entry_at, entries, reference_at, references}
use Rattle.rz_fork.specs.Rules.{count_of}

pub length-items_from : {A : Type 0} (item : ℕ → A) (size place count : ℕ) → length (items_from item size place count) ≡ count
length-items_from item size place zero = refl
length-items_from item size place (suc count) = ap suc (length-items_from item size (place + size) count)

-- the item at a position, at its place
pub get-items_from : {A : Type 0} (item : ℕ → A) (size place count k q : ℕ) → k < count → q ≡ place + size * k → slice_get (items_from item size place count) k ≡ Some (item q)
get-items_from item size place zero k q within at = absurd (omega arith)
get-items_from item size place (suc count) zero q within at = ap (λ p. Some (item p)) (omega arith)
get-items_from item size place (suc count) (suc k) q within at =
    get-items_from item size (place + size) count k q (omega arith) (at ∙ omega (arith, mul-suc size k))

-- what holds at every place holds of every item
pub all_items : {A : Type 0} (P : A → Type 0) (item : ℕ → A) (size place count : ℕ) → ((place : ℕ) → P (item place)) → AllByRecursion P (items_from item size place count)
all_items P item size place zero each = tt
all_items P item size place (suc count) each = (each place, all_items P item size (place + size) count each)

pub length-entries : (bytes : List ℕ) (o : Outline) → length (entries bytes o) ≡ o.count
unfolding entries
length-entries bytes o = length-items_from (entry_at bytes o) 8 (types_place o + 2) o.count

pub get-entries : (bytes : List ℕ) (o : Outline) (k q : ℕ) → k < o.count → q ≡ types_place o + 2 + 8 * k → slice_get (entries bytes o) k ≡ Some (entry_at bytes o q)
unfolding entries
get-entries bytes o k q within at = get-items_from (entry_at bytes o) 8 (types_place o + 2) o.count k q within at

pub length-references : (bytes : List ℕ) (t : TypeEntry) → length (references bytes t) ≡ t.count
unfolding references
length-references bytes t = length-items_from (reference_at bytes) 12 t.list t.count

pub get-references : (bytes : List ℕ) (t : TypeEntry) (j q : ℕ) → j < t.count → q ≡ t.list + 12 * j → slice_get (references bytes t) j ≡ Some (reference_at bytes q)
unfolding references
get-references bytes t j q within at = get-items_from (reference_at bytes) 12 t.list t.count j q within at

-- one item more
pub count_more : (ts : List TypeEntry) (k : ℕ) (t : TypeEntry) → slice_get ts k ≡ Some t → count_of (take (k + 1) ts) ≡ count_of (take k ts) + t.count
count_more ts k t is = ap count_of (take_at_more ts k t is) ∙ sum_by_push (λ t. t.count) (take k ts) t

pub map_more : {A B : Type 0} (f : A → B) (xs : List A) (i : ℕ) (x : A) → slice_get xs i ≡ Some x → map f (take (i + 1) xs) ≡ map f (take i xs) ++ f x ∷ []
map_more f xs i x is = ap (map f) (take_at_more xs i x is) ∙ map-append f (take i xs) (x ∷ [])

pub flat_map_at_more : {A B : Type 0} (f : A → List B) (xs : List A) (i : ℕ) (x : A) → slice_get xs i ≡ Some x → flat_map f (take (i + 1) xs) ≡ flat_map f (take i xs) ++ f x
flat_map_at_more f xs i x is =
    ap (flat_map f) (take_at_more xs i x is) ∙ flat_map-append f (take i xs) (x ∷ []) ∙ ap (λ l. flat_map f (take i xs) ++ l) (append-nil (f x))
