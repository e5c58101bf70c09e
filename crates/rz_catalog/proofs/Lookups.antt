-- Entries of a catalogue, and the resources of a stock that they are of.
use Rattle.std.proofs.Common.{◌≡◌, ℕ, suc, ◌≤◌, Bool, true, false, List, [], ◌∷◌, ◌++◌, length, map, Option, Some, refl, sym, ap, subst, ◌∙◌, arith}
use Rattle.std.specs.Prelude.{◌==◌, ◌&&◌, ◌||◌, if◌then◌else◌, option_map, slice_get}
use Rattle.std.specs.List.{list_any, AllByRecursion}
use Rattle.std.proofs.lemmas.Bool.Decides.{nat_tests}
use Rattle.std.proofs.lemmas.Grind.{flat_map-append}
use Rattle.std.proofs.lemmas.List.{append-nil, append_assoc, length-append, map-append}
use Rattle.rz_core.proofs.Lists.{all_append}
use Rattle.rz_core.proofs.Tests.{both, or_false, same_sym}
use Rattle.rz_core.specs.Lists.{with_front}
use Rattle.rz_core.specs.Resources.{id_bits, same_key, KeysDiffer}
use Rattle.rz_core.specs.declared.moment.Moment.{Moment}
use Rattle.rz_core.specs.declared.resource.Resource.{Resource}
use Rattle.rz_catalog_text.specs.declared.entry.Entry.{Entry}
use Rattle.rz_types_table.specs.Table.{Declaration}
use Rattle.rz_catalog.specs.Apply.{first_such, id_bits_of, is_entry_for, same_leaf}
use Rattle.rz_catalog.specs.Catalogue.{catalogue, entries_of, entry_of}
use Rattle.rz_catalog.specs.Stock.{texts_of, AreStocked, Stocked}

-- Lists.

pub any_map : {A B : Type 0} (p : B → Bool) (f : A → B) (xs : List A) → list_any p (map f xs) ≡ list_any (λ x. p (f x)) xs
any_map p f [] = refl
any_map p f (x ∷ xs) = ap (λ (b : Bool). p (f x) || b) (any_map p f xs)

pub first_map : {A B : Type 0} (p : B → Bool) (f : A → B) (xs : List A) → first_such p (map f xs) ≡ option_map f (first_such (λ x. p (f x)) xs)
first_map p f [] = refl
first_map {A} {B} p f (x ∷ xs) = by (p (f x)) (first_map p f xs)
  where
    by : (b : Bool) → first_such p (map f xs) ≡ option_map f (first_such (λ y. p (f y)) xs)
        → (if b then Some (f x) else first_such p (map f xs)) ≡ option_map f (if b then Some x else first_such (λ y. p (f y)) xs)
    by true others = refl
    by false others = others

first_passed : {A : Type 0} (p : A → Bool) (front : List A) (x : A) (rest : List A) → list_any p front ≡ false → p x ≡ true → first_such p (front ++ x ∷ rest) ≡ Some x
first_passed p [] x rest none passes = ap (λ (b : Bool). if b then Some x else first_such p rest) passes
first_passed p (y ∷ front) x rest none passes =
    let each = or_false (p y) (list_any p front) none in
    ap (λ (b : Bool). if b then Some y else first_such p (front ++ x ∷ rest)) each.0 ∙ first_passed p front x rest each.1 passes

pub at_front : {A : Type 0} (front : List A) (x : A) (rest : List A) → slice_get (front ++ x ∷ rest) (length front) ≡ Some x
at_front [] x rest = refl
at_front (y ∷ front) x rest = at_front front x rest

none_of : {A : Type 0} (p : A → Bool) (xs : List A) → AllByRecursion (λ x. p x ≡ false) xs → list_any p xs ≡ false
none_of p [] all = refl
none_of p (x ∷ xs) all = ap (λ (b : Bool). b || list_any p xs) all.0 ∙ none_of p xs all.1

all_so : {A : Type 0} (P Q : A → Type 0) → ((x : A) → P x → Q x) → (xs : List A) → AllByRecursion P xs → AllByRecursion Q xs
all_so P Q so [] all = tt
all_so P Q so (x ∷ xs) all = (so x all.0, all_so P Q so xs all.1)

-- Keys.

same_self : (a : ℕ) → (a == a) ≡ true
same_self a = grind (arith, nat_tests)

pub tested : (a b : ℕ) → (a == b) ≡ true → a ≡ b
tested a b is = grind (arith, nat_tests)

own_key : (r : Resource) (k : ℕ) (text : List ℕ) → is_entry_for r (entry_of r.kind r.id k text) ≡ true
own_key r k text = (λ i. same_self r.kind.code i && same_self (id_bits r) i)

-- an entry for a resource is for those that have its key
key_of : (r : Resource) (e : Entry) → is_entry_for r e ≡ true → (b : Resource) → is_entry_for b e ≡ same_key b r
key_of r e is b =
    let each = both (r.kind.code == e.kind.code) (id_bits r == id_bits_of e) is in
    let code = tested r.kind.code e.kind.code each.0 in
    let bits = tested (id_bits r) (id_bits_of e) each.1 in
    λ i. (b.kind.code == sym code i) && (id_bits b == sym bits i)

abbrev pub resources_of : List Stocked → List Resource
resources_of stock = map (λ s. s.resource) stock

pub stock_list : (types : List Declaration) (moment : Moment) (list : List Resource) (stock : List Stocked) → AreStocked types moment list stock → resources_of stock ≡ list
stock_list types moment [] [] are = refl
stock_list types moment [] (s ∷ stock) are = absurd are
stock_list types moment (r ∷ list) [] are = absurd are
stock_list types moment (r ∷ list) (s ∷ stock) are = (λ i. are.0 i ∷ stock_list types moment list stock are.2 i)

abbrev pub holder_of : List Stocked → Entry → Option Stocked
holder_of stock e = first_such (λ s. is_entry_for s.resource e) stock

pub holder_is : (front : List Stocked) (s : Stocked) (rest : List Stocked) (e : Entry) → list_any (λ b. same_key b s.resource) (resources_of front) ≡ false → is_entry_for s.resource e ≡ true
    → holder_of (front ++ s ∷ rest) e ≡ Some s
holder_is front s rest e none is =
    first_passed (λ x. is_entry_for x.resource e) front s rest
    ((λ i. list_any (λ x. key_of s.resource e is x.resource i) front) ∙ sym (any_map (λ b. same_key b s.resource) (λ x. x.resource) front) ∙ none) is

abbrev pub StockDiffers : List Stocked → List Stocked → Type 0
StockDiffers front stock = KeysDiffer (resources_of front) (resources_of stock)

pub behind_differ : (front : List Stocked) (s : Stocked) (stock : List Stocked) → StockDiffers front (s ∷ stock) → StockDiffers (front ++ s ∷ []) stock
behind_differ front s stock keys = subst (λ before. KeysDiffer before (resources_of stock)) (sym (map-append (λ s. s.resource) front (s ∷ []))) keys.1

-- Each entry of a catalogue is of a resource, and has its text.

abbrev pub IsOwn : List Stocked → Entry → Type 0
IsOwn stock e = (s : Stocked) × (holder_of stock e ≡ Some s) × (slice_get (texts_of s) e.leaf ≡ Some e.text)

module _ (r : Resource) (P : Entry → Type 0) (whole : List (List ℕ)) (each : (k : ℕ) (text : List ℕ) → slice_get whole k ≡ Some text → P (entry_of r.kind r.id k text)) where
  entries_from : (front texts : List (List ℕ)) → front ++ texts ≡ whole → AllByRecursion P (with_front (λ before text. entry_of r.kind r.id (length before) text ∷ []) front texts)
  entries_from front [] is = tt
  entries_from front (text ∷ texts) is = (
    each (length front) text (ap (λ (l : List (List ℕ)). slice_get l (length front)) (sym is) ∙ at_front front text texts),
    entries_from (front ++ text ∷ []) texts (append_assoc front (text ∷ []) texts ∙ is),
  )

  entries_all : AllByRecursion P (entries_of r.kind r.id whole)
  entries_all = entries_from [] whole refl

pub each_own : (front stock : List Stocked) → StockDiffers front stock → AllByRecursion (IsOwn (front ++ stock)) (catalogue stock)
each_own front [] keys = tt
each_own front (s ∷ stock) keys =
    all_append (IsOwn (front ++ s ∷ stock)) (entries_of s.resource.kind s.resource.id (texts_of s)) (catalogue stock)
    (entries_all s.resource (IsOwn (front ++ s ∷ stock)) (texts_of s)
    (λ k text at. (s, holder_is front s stock (entry_of s.resource.kind s.resource.id k text) keys.0 (own_key s.resource k text), at)))
    (subst (λ (whole : List Stocked). AllByRecursion (IsOwn whole) (catalogue stock)) (append_assoc front (s ∷ []) stock) (each_own (front ++ s ∷ []) stock (behind_differ front s stock keys)))

-- No two entries of a catalogue are for one leaf.

abbrev pub LeavesDiffer : List Entry → List Entry → Type 0
LeavesDiffer before [] = Unit {0}
LeavesDiffer before (e ∷ entries) = (list_any (same_leaf e) before ≡ false) × LeavesDiffer (before ++ e ∷ []) entries

differ_append : (before xs ys : List Entry) → LeavesDiffer before xs → LeavesDiffer (before ++ xs) ys → LeavesDiffer before (xs ++ ys)
differ_append before [] ys one other = subst (λ (b : List Entry). LeavesDiffer b ys) (append-nil before) other
differ_append before (e ∷ xs) ys one other =
    (one.0, differ_append (before ++ e ∷ []) xs ys one.1 (subst (λ (b : List Entry). LeavesDiffer b ys) (sym (append_assoc before (e ∷ []) xs)) other))

-- no such entry is for a leaf of this resource from this number on
abbrev AreFree : Resource → ℕ → List Entry → Type 0
AreFree r k before = AllByRecursion (λ b. (j : ℕ) → k ≤ j → same_leaf (entry_of r.kind r.id j []) b ≡ false) before

later_leaf : (a : Bool) (j k : ℕ) → suc k ≤ j → (a && (j == k)) ≡ false
later_leaf a j k less = let n : (j == k) ≡ false = grind (arith, nat_tests) in ap (λ (c : Bool). a && c) n ∙ ends a
  where
    ends : (a : Bool) → (a && false) ≡ false
    ends true = refl
    ends false = refl

own_differ : (r : Resource) (before : List Entry) (front texts : List (List ℕ)) → AreFree r (length front) before
    → LeavesDiffer before (with_front (λ before text. entry_of r.kind r.id (length before) text ∷ []) front texts)
own_differ r before front [] free = tt
own_differ r before front (text ∷ texts) free =
    let e = entry_of r.kind r.id (length front) text in
    let next : length (front ++ text ∷ []) ≡ suc (length front) = omega (arith, length-append front (text ∷ [])) in (
      none_of (same_leaf e) before (all_so _ _ (λ b is. is (length front) (omega arith)) before free),
      own_differ r (before ++ e ∷ []) (front ++ text ∷ []) texts
          (all_append _ before (e ∷ []) (all_so _ _ (λ b is j less. is j (omega (arith, less, next))) before free)
          ((λ j less. later_leaf (same_key r r) j (length front) (omega (arith, less, next))), tt)),
    )

other_key : (r other : Resource) (j k : ℕ) → same_key other r ≡ false → (same_key r other && (j == k)) ≡ false
other_key r other j k differs = ap (λ (b : Bool). b && (j == k)) ((λ i. same_sym r.kind.code other.kind.code i && same_sym (id_bits r) (id_bits other) i) ∙ differs)

free_front : (r : Resource) (front : List Stocked) → list_any (λ b. same_key b r) (resources_of front) ≡ false → AreFree r 0 (catalogue front)
free_front r [] none = tt
free_front r (s ∷ front) none =
    let each = or_false (same_key s.resource r) (list_any (λ b. same_key b r) (resources_of front)) none in
    all_append _ (entries_of s.resource.kind s.resource.id (texts_of s)) (catalogue front)
    (entries_all s.resource (λ b. (j : ℕ) → 0 ≤ j → same_leaf (entry_of r.kind r.id j []) b ≡ false) (texts_of s) (λ k text at j less. other_key r s.resource j k each.0))
    (free_front r front each.1)

catalogue_more : (front : List Stocked) (s : Stocked) → catalogue (front ++ s ∷ []) ≡ catalogue front ++ entries_of s.resource.kind s.resource.id (texts_of s)
catalogue_more front s =
    flat_map-append (λ s. entries_of s.resource.kind s.resource.id (texts_of s)) front (s ∷ [])
    ∙ ap (λ (l : List Entry). catalogue front ++ l) (append-nil (entries_of s.resource.kind s.resource.id (texts_of s)))

pub leaves_differ : (front stock : List Stocked) → StockDiffers front stock → LeavesDiffer (catalogue front) (catalogue stock)
leaves_differ front [] keys = tt
leaves_differ front (s ∷ stock) keys =
    differ_append (catalogue front) (entries_of s.resource.kind s.resource.id (texts_of s)) (catalogue stock)
    (own_differ s.resource (catalogue front) [] (texts_of s) (free_front s.resource front keys.0))
    (subst (λ (b : List Entry). LeavesDiffer b (catalogue stock)) (catalogue_more front s) (leaves_differ (front ++ s ∷ []) stock (behind_differ front s stock keys)))
