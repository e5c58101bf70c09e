-- What is still to be lent of a fork.
use Rattle.std.proofs.Common.{◌≡◌, ◌==◌, false, ℕ, zero, suc, ◌+◌, ◌-◌, ◌<◌, ◌≤◌, ◌++◌, List, [], ◌∷◌, Some, drop, map, length, option_map, slice_get, ap, sym, refl, ◌∙◌, arith, subst, min, length-append, length-drop}
use Rattle.std.proofs.lemmas.Bool.{ne_eqb}
use Rattle.std.proofs.lemmas.List.Sums.{sum_by-cons}
use Rattle.std.proofs.lemmas.List.{at_drop_more, drop_all, length-map, length-take}
use Rattle.std.proofs.lemmas.Option.{slice_get_within, get_or_from_slice_get, slice_get-map}
use Rattle.std.specs.List.{flat_map, AllByRecursion}
use Rattle.rz_core.specs.Numbers.{items_from}
use Rattle.rz_core.specs.Resources.{KeysDiffer}
use Rattle.rz_core.specs.declared.resource.Resource.{Resource}
use Rattle.rz_fork.specs.declared.layout.Outline.{Outline}
use Rattle.rz_fork.specs.declared.layout.Reference.{Reference}
use Rattle.rz_fork.specs.declared.layout.TypeEntry.{TypeEntry}
use Rattle.rz_fork.specs.Rules.{count_of}
use Rattle.rz_fork.specs.Code.{IsAdmitted}
use Rattle.rz_fork.specs.Contents.{contents, reserved_of, resource_of, resources_of, resources, FitsFork}
use Rattle.rz_fork.specs.Layout.{header_of, entries, entry_at, references, types_place}
use Rattle.rz_fork.specs.View.{left, IsLent}
use Rattle.rz_fork.proofs.Fits.{AreBytes, all_fit}
use Rattle.rz_fork.proofs.Holding.{lists_hold}
use Rattle.rz_fork.proofs.Items.{length-entries, length-references}
use Rattle.rz_fork.proofs.Keys.{keys_differ}

-- the item at a position begins what is left from there
drop_get : {A : Type 0} (xs : List A) (i : ℕ) (x : A) → slice_get xs i ≡ Some x → drop i xs ≡ x ∷ drop (i + 1) xs
drop_get xs i x is = at_drop_more (λ l. l) xs i x (slice_get_within xs i x is) ∙ ap (λ y. y ∷ drop (i + 1) xs) (get_or_from_slice_get xs i x x is)

-- an item of two lists stands in the first or in the second
get_front : {A : Type 0} (xs ys : List A) (k : ℕ) → k < length xs → slice_get (xs ++ ys) k ≡ slice_get xs k
get_front [] ys k within = absurd (omega arith)
get_front (x ∷ xs) ys zero within = refl
get_front (x ∷ xs) ys (suc k) within = get_front xs ys k (omega arith)

get_behind : {A : Type 0} (xs ys : List A) (k : ℕ) → length xs ≤ k → slice_get (xs ++ ys) k ≡ slice_get ys (k - length xs)
get_behind [] ys k past = ap (slice_get ys) (omega arith)
get_behind (x ∷ xs) ys zero past = absurd (omega arith)
get_behind (x ∷ xs) ys (suc k) past = get_behind xs ys k (omega arith) ∙ ap (slice_get ys) (omega arith)

-- what holds an item is not empty
some_there : {A B : Type 0} (f : A → List B) (xs : List A) (k : ℕ) → k < length (flat_map f xs) → 0 < length xs
some_there f [] k within = absurd (omega arith)
some_there f (x ∷ xs) k within = omega arith

module _ (bytes : List ℕ) (o : Outline) (t : TypeEntry) where
  length-resources_of : length (resources_of bytes o t) ≡ t.count
  length-resources_of = length-map (references bytes t) (resource_of bytes o t) ∙ length-references bytes t

  pub nothing_left : (next begun : ℕ) → t.count ≤ next → o.count ≤ begun → left bytes o t next begun ≡ []
  nothing_left next begun past over = λ i. map (resource_of bytes o t) (drop_all next (references bytes t) (omega (arith, past, length-references bytes t)) i)
      ++ flat_map (resources_of bytes o) (drop_all begun (entries bytes o) (omega (arith, over, length-entries bytes o)) i)

  pub next_type : (next begun : ℕ) (e : TypeEntry) → t.count ≤ next → slice_get (entries bytes o) begun ≡ Some e → left bytes o e 0 (begun + 1) ≡ left bytes o t next begun
  next_type next begun e past is = sym (λ i. map (resource_of bytes o t) (drop_all next (references bytes t) (omega (arith, past, length-references bytes t)) i)
      ++ flat_map (resources_of bytes o) (drop_get (entries bytes o) begun e is i))

  pub one_left : (next begun : ℕ) (r : Reference) → slice_get (references bytes t) next ≡ Some r → left bytes o t next begun ≡ resource_of bytes o t r ∷ left bytes o t (next + 1) begun
  one_left next begun r is = λ i. map (resource_of bytes o t) (drop_get (references bytes t) next r is i) ++ flat_map (resources_of bytes o) (drop begun (entries bytes o))

  -- a position after the resources of this type stands in a type that follows
  pub some_type : (k begun : ℕ) → t.count ≤ k → k < length (left bytes o t 0 begun) → begun < o.count
  some_type k begun past within =
      let behind = flat_map (resources_of bytes o) (drop begun (entries bytes o)) in
      let there = some_there (resources_of bytes o) (drop begun (entries bytes o)) (k - t.count)
      (omega (arith, past, within, length-append (resources_of bytes o t) behind, length-resources_of)) in
      omega (arith, there, length-drop begun (entries bytes o), length-entries bytes o)

  pub get_later : (k begun : ℕ) (e : TypeEntry) → t.count ≤ k → slice_get (entries bytes o) begun ≡ Some e
      → slice_get (left bytes o e 0 (begun + 1)) (k - t.count) ≡ slice_get (left bytes o t 0 begun) k
  get_later k begun e past is = sym (
      get_behind (resources_of bytes o t) (flat_map (resources_of bytes o) (drop begun (entries bytes o))) k (omega (arith, past, length-resources_of))
      ∙ (λ i. slice_get (flat_map (resources_of bytes o) (drop_get (entries bytes o) begun e is i)) (k - length-resources_of i))
      )

  pub within_later : (k begun : ℕ) (e : TypeEntry) → t.count ≤ k → slice_get (entries bytes o) begun ≡ Some e
      → k < length (left bytes o t 0 begun) → k - t.count < length (left bytes o e 0 (begun + 1))
  within_later k begun e past is within =
      let behind = ap (λ (es : List TypeEntry). length (flat_map (resources_of bytes o) es)) (drop_get (entries bytes o) begun e is) in
      omega (arith, past, within, behind, length-append (resources_of bytes o t) (flat_map (resources_of bytes o) (drop begun (entries bytes o))), length-resources_of)

  pub get_here : (k begun : ℕ) (r : Reference) → slice_get (references bytes t) k ≡ Some r → slice_get (left bytes o t 0 begun) k ≡ Some (resource_of bytes o t r)
  get_here k begun r is =
      get_front (resources_of bytes o t) (flat_map (resources_of bytes o) (drop begun (entries bytes o))) k
      (omega (arith, slice_get_within (references bytes t) k r is, length-references bytes t, length-resources_of))
      ∙ slice_get-map (resource_of bytes o t) (references bytes t) k ∙ ap (option_map (resource_of bytes o t)) is

-- the type with which a walk begins
abbrev pub no_type : TypeEntry
no_type = record { place = 0; code = 0; count = 0; list = 0 }

-- a walk begins with all
pub lent_list : (bytes : List ℕ) (o : Outline) (count : ℕ) → IsLent bytes o count → left bytes o no_type 0 0 ≡ (contents bytes).list
unfolding references contents entries
lent_list [] o count is = ap (λ (n : ℕ). flat_map (resources_of [] o) (items_from (entry_at [] o) 8 (types_place o + 2) n)) (is.none refl)
lent_list (b ∷ bs) o count is =
    let there : (length (b ∷ bs) == 0) ≡ false = ne_eqb (length (b ∷ bs)) 0 (λ none. omega (arith, none)) in
    rw there (ap (λ (q : Outline). flat_map (resources_of (b ∷ bs) q) (entries (b ∷ bs) q)) (is.some (omega arith)).outline)

-- and there are so many
length-resources : (bytes : List ℕ) (o : Outline) (ts : List TypeEntry) → length (flat_map (resources_of bytes o) ts) ≡ count_of ts
length-resources bytes o [] = refl
length-resources bytes o (t ∷ ts) =
    length-append (resources_of bytes o t) (flat_map (resources_of bytes o) ts)
    ∙ (λ i. length-resources_of bytes o t i + length-resources bytes o ts i)
    ∙ sym (sum_by-cons (λ t. t.count) t ts)

all_left : (bytes : List ℕ) (o : Outline) → flat_map (resources_of bytes o) (entries bytes o) ≡ left bytes o no_type 0 0
unfolding references
all_left bytes o = refl

pub length_is : (bytes : List ℕ) (o : Outline) (count : ℕ) → IsLent bytes o count → count ≡ length (contents bytes).list
length_is bytes o count is =
    is.counted ∙ sym (length-resources bytes o (entries bytes o)) ∙ ap length (all_left bytes o ∙ lent_list bytes o count is)

-- the reserved bytes have room
pub has_room : (bytes : List ℕ) → length (contents bytes).reserved ≤ 240
unfolding contents reserved_of
has_room [] = omega arith
has_room (b ∷ bs) =
    let there : (length (b ∷ bs) == 0) ≡ false = ne_eqb (length (b ∷ bs)) 0 (λ none. omega (arith, none)) in
    let h = header_of (b ∷ bs) in
    rw there (omega (arith, length-take (min 256 (min h.data_at h.map_at) - 16) (drop 16 (b ∷ bs))))

-- no bytes lend nothing
abbrev pub nothing : Outline
nothing = record { header = record { data_at = 0; map_at = 0; data_length = 0; map_length = 0 }; types = 0; names = 0; count = 0 }

pub nothing_lent : (bytes : List ℕ) → length bytes ≡ 0 → IsLent bytes nothing 0
unfolding contents entries
nothing_lent [] empty = record { none = λ no. refl; some = λ some. absurd (omega (arith, some)); counted = refl; keys = tt; fits = tt }
nothing_lent (b ∷ bs) empty = absurd (omega (arith, empty))

-- an admitted fork is lent
abbrev AreFit : List Resource → Type 0
AreFit rs = KeysDiffer [] rs × AllByRecursion FitsFork rs

contents_fit : (bytes : List ℕ) (o : Outline) → AreBytes bytes → 0 < length bytes → IsAdmitted bytes o → AreFit (contents bytes).list
unfolding contents
contents_fit [] o small some all = absurd (omega (arith, some))
contents_fit (b ∷ bs) o small some all =
    let there : (length (b ∷ bs) == 0) ≡ false = ne_eqb (length (b ∷ bs)) 0 (λ none. omega (arith, none)) in
    let fit : AreFit (resources (b ∷ bs) o) = (keys_differ (b ∷ bs) o small (lists_hold (b ∷ bs) o all.lists), all_fit (b ∷ bs) o small) in
    rw there (subst (λ (q : Outline). AreFit (resources (b ∷ bs) q)) all.outline fit)

pub admitted_lent : (bytes : List ℕ) (o : Outline) (count : ℕ) → AreBytes bytes → 0 < length bytes → IsAdmitted bytes o → count ≡ count_of (entries bytes o) → IsLent bytes o count
admitted_lent bytes o count small some all counted =
    let fit = contents_fit bytes o small some all in
    record { none = λ no. absurd (omega (arith, no, some)); some = λ more. all; counted = counted; keys = fit.0; fits = fit.1 }

-- what a walk begins with
pub can_begin : (bytes : List ℕ) (o : Outline) (count : ℕ) → IsLent bytes o count → 0 < o.count → IsAdmitted bytes o
can_begin [] o count is below = absurd (omega (arith, is.none refl, below))
can_begin (b ∷ bs) o count is below = is.some (omega arith)
