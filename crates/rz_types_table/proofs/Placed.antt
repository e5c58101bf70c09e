-- The positions of the slots whose declarations pass, and what is read in these slots.
use Rattle.std.proofs.Common.{◌≡◌, ℕ, ℤ, zero, suc, ◌+◌, ◌<◌, ◌≤◌, Bool, true, false, ◌||◌, if◌then◌else◌, List, [], ◌∷◌, ◌++◌, get_or, length, map, take, drop, filter, Option, Some, None, refl, sym, ap, ◌∙◌, arith}
use Rattle.std.specs.List.{drop-map, list_any, remove}
use Rattle.std.specs.Option.{option_to_list}
use Rattle.std.specs.Prelude.{option_map, set, slice_get}
use Rattle.std.proofs.lemmas.List.{append-nil, length-append, length-map, map-append, map-set, take_all, take-map}
use Rattle.std.proofs.lemmas.Option.{same_Some, slice_get-get_or, slice_get-map}
use Rattle.rz_core.specs.Lists.{or_else}
use Rattle.rz_types_table.specs.Listed.{declaration_of, groups_of, listed, own_group, standing, AreOwn}
use Rattle.rz_types_table.specs.Positions.{in_slot, of_group, positions, same_group}
use Rattle.rz_types_table.specs.Table.{last_such, Declaration}
use Rattle.rz_types_table.specs.declared.table.Declared.{Declared}
use Rattle.rz_types.proofs.Firsts.{or_none}
use Rattle.rz_types_fields.proofs.Positions.{at_all, at_more, at_positions, at_shift, positions-push, positions_within, some_suc}
use Rattle.rz_types_table.proofs.Found.{last_such-push, none_first, standing-push}
use Rattle.rz_types_table.proofs.Groups.{group_is}

-- One position more.

pub positions-map : {A B : Type 0} (test : B → Bool) (f : A → B) (xs : List A) → positions test (map f xs) ≡ positions (λ x. test (f x)) xs
positions-map test f [] = refl
positions-map test f (x ∷ xs) = ap (λ (l : List ℕ). if test (f x) then 0 ∷ map suc l else map suc l) (positions-map test f xs)

-- a group more at the end, where a group's positions before and after differ by its own
placed_more : (groups : List (Option (ℕ × Option ℤ))) (group other : ℕ × Option ℤ) (before after : List ℕ)
    → after ≡ before ++ (if same_group group other then length groups ∷ [] else [])
    → before ≡ positions (of_group other) groups → after ≡ positions (of_group other) (groups ++ Some group ∷ [])
placed_more groups group other before after adds placed =
    adds ∙ ap (λ (l : List ℕ). l ++ (if same_group group other then length groups ∷ [] else [])) placed ∙ sym (positions-push (of_group other) groups (Some group))

-- What is read.

module _ {A : Type 0} (test : A → Bool) where
  front_by : (x : A) (xs : List A) (ks : List ℕ) → ((i p : ℕ) → slice_get ks i ≡ Some p → at_positions xs (take i ks) ≡ filter test (take p xs))
      → (b : Bool) → b ≡ test x → (i p : ℕ) → slice_get (if b then 0 ∷ map suc ks else map suc ks) i ≡ Some p
      → at_positions (x ∷ xs) (take i (if b then 0 ∷ map suc ks else map suc ks)) ≡ filter test (take p (x ∷ xs))
  front_by x xs ks before true passes zero p is = ap (λ k. filter test (take k (x ∷ xs))) (same_Some 0 p is)
  front_by x xs ks before true passes (suc i) p is =
      let one = some_suc (slice_get ks i) p (sym (slice_get-map suc ks i) ∙ is) in
      ap (λ (l : List ℕ). x ∷ at_positions (x ∷ xs) l) (take-map suc i ks)
      ∙ ap (λ (l : List A). x ∷ l) (at_shift x xs (take i ks) ∙ before i one.0 one.1)
      ∙ ap (λ b. if b then x ∷ filter test (take one.0 xs) else filter test (take one.0 xs)) passes
      ∙ ap (λ k. filter test (take k (x ∷ xs))) one.2
  front_by x xs ks before false passes i p is =
      let one = some_suc (slice_get ks i) p (sym (slice_get-map suc ks i) ∙ is) in
      ap (at_positions (x ∷ xs)) (take-map suc i ks)
      ∙ at_shift x xs (take i ks)
      ∙ before i one.0 one.1
      ∙ ap (λ b. if b then x ∷ filter test (take one.0 xs) else filter test (take one.0 xs)) passes
      ∙ ap (λ k. filter test (take k (x ∷ xs))) one.2

  -- at the positions before one
  pub at_front : (xs : List A) (i p : ℕ) → slice_get (positions test xs) i ≡ Some p → at_positions xs (take i (positions test xs)) ≡ filter test (take p xs)
  at_front [] i p is = cc
  at_front (x ∷ xs) i p is = front_by x xs (positions test xs) (at_front xs) (test x) refl i p is

-- Of the slots that pass a test, what passes a stronger one.

module _ {A B : Type 0} (test : B → Bool) (f : A → B) (of : Option A → Bool) (empty : of None ≡ false)
    (apart : (x : A) → of (Some x) ≡ false → test (f x) ≡ false) where
  last_by : (x : A) (xs : List (Option A)) → last_such test (map f (standing (filter of xs))) ≡ last_such test (map f (standing xs)) → (b : Bool) → of (Some x) ≡ b
      → last_such test (map f (standing (if b then Some x ∷ filter of xs else filter of xs))) ≡ last_such test (map f (standing (Some x ∷ xs)))
  last_by x xs same true is = ap (λ (o : Option B). or_else o (if test (f x) then Some (f x) else None)) same
  last_by x xs same false is =
      same ∙ sym (or_none (last_such test (map f (standing xs))))
      ∙ ap (λ b. or_else (last_such test (map f (standing xs))) (if b then Some (f x) else None)) (sym (apart x is))

  pub last_filter : (xs : List (Option A)) → last_such test (map f (standing (filter of xs))) ≡ last_such test (map f (standing xs))
  last_filter [] = refl
  last_filter (None ∷ xs) = ap (λ b. last_such test (map f (standing (if b then None ∷ filter of xs else filter of xs)))) empty ∙ last_filter xs
  last_filter (Some x ∷ xs) = last_by x xs (last_filter xs) (of (Some x)) refl

  any_by : (x : A) (xs : List (Option A)) → list_any test (map f (standing (filter of xs))) ≡ list_any test (map f (standing xs)) → (b : Bool) → of (Some x) ≡ b
      → list_any test (map f (standing (if b then Some x ∷ filter of xs else filter of xs))) ≡ list_any test (map f (standing (Some x ∷ xs)))
  any_by x xs same true is = ap (λ b. test (f x) || b) same
  any_by x xs same false is = same ∙ ap (λ b. b || list_any test (map f (standing xs))) (sym (apart x is))

  pub any_filter : (xs : List (Option A)) → list_any test (map f (standing (filter of xs))) ≡ list_any test (map f (standing xs))
  any_filter [] = refl
  any_filter (None ∷ xs) = ap (λ b. list_any test (map f (standing (if b then None ∷ filter of xs else filter of xs)))) empty ∙ any_filter xs
  any_filter (Some x ∷ xs) = any_by x xs (any_filter xs) (of (Some x)) refl

-- The code's steps.

-- one slot more is read
standing_more : {A : Type 0} (slots : List (Option A)) (ks : List ℕ) (i : ℕ) (slot : Option A) → i < length ks → get_or ks i 0 < length slots
    → slot ≡ get_or slots (get_or ks i 0) slot
    → standing (at_positions slots (take (i + 1) ks)) ≡ standing (at_positions slots (take i ks)) ++ option_to_list slot
standing_more slots ks i slot below within is =
    ap (λ (l : List _). standing l) (at_more slots ks i slot below within is) ∙ standing-push (at_positions slots (take i ks)) slot

-- what stands in one slot more
last_slot : {A B : Type 0} (test : B → Bool) (f : A → B) (front : List A) (slot : Option A)
    → (if in_slot test (option_map f slot) then option_map f slot else last_such test (map f front)) ≡ last_such test (map f (front ++ option_to_list slot))
last_slot test f front None = ap (λ (l : List _). last_such test (map f l)) (sym (append-nil front))
last_slot test f front (Some x) =
    sym (last_such-push test (map f front) (f x)) ∙ ap (last_such test) (sym (map-append f front (x ∷ [])))

pub later_at : {A B : Type 0} (test : B → Bool) (f : A → B) (slots : List (Option A)) (ks : List ℕ) (i : ℕ) (slot : Option A)
    → i < length ks → get_or ks i 0 < length slots → slot ≡ get_or slots (get_or ks i 0) slot
    → (passes : Bool) (before after : Option B) → after ≡ (if passes then option_map f slot else before) → passes ≡ in_slot test (option_map f slot)
    → before ≡ last_such test (map f (standing (at_positions slots (take i ks)))) → after ≡ last_such test (map f (standing (at_positions slots (take (i + 1) ks))))
later_at test f slots ks i slot below within is passes before after made tests so_far =
    let front = standing (at_positions slots (take i ks)) in
    made
    ∙ (λ j. if tests j then option_map f slot else so_far j)
    ∙ last_slot test f front slot
    ∙ ap (λ (l : List _). last_such test (map f l)) (sym (standing_more slots ks i slot below within is))

none_push : {A : Type 0} (test : A → Bool) (xs : List A) (y : A) → list_any test xs ≡ false → test y ≡ false → list_any test (xs ++ y ∷ []) ≡ false
none_push test [] y none fails = ap (λ b. b || false) fails
none_push test (x ∷ xs) y none fails =
    λ i. (none_first test x xs none).0 i || none_push test xs y ((none_first test x xs none).1) fails i

none_more : {A B : Type 0} (test : B → Bool) (f : A → B) (front : List A) (slot : Option A) → in_slot test (option_map f slot) ≡ false
    → list_any test (map f front) ≡ false → list_any test (map f (front ++ option_to_list slot)) ≡ false
none_more test f front None fails none = ap (λ (l : List _). list_any test (map f l)) (append-nil front) ∙ none
none_more test f front (Some x) fails none = ap (list_any test) (map-append f front (x ∷ [])) ∙ none_push test (map f front) (f x) none fails

pub none_at : {A B : Type 0} (test : B → Bool) (f : A → B) (slots : List (Option A)) (ks : List ℕ) (i : ℕ) (slot : Option A)
    → i < length ks → get_or ks i 0 < length slots → slot ≡ get_or slots (get_or ks i 0) slot → in_slot test (option_map f slot) ≡ false
    → list_any test (map f (standing (at_positions slots (take i ks)))) ≡ false → list_any test (map f (standing (at_positions slots (take (i + 1) ks)))) ≡ false
none_at test f slots ks i slot below within is fails none =
    ap (λ (l : List _). list_any test (map f l)) (standing_more slots ks i slot below within is)
    ∙ none_more test f (standing (at_positions slots (take i ks))) slot fails none

-- what passes stands in its slot
pub found_in : {A B : Type 0} (test : B → Bool) (f : A → B) (slot : Option A) → in_slot test (option_map f slot) ≡ true → (x : A) × (slot ≡ Some x) × (test (f x) ≡ true)
found_in test f None passes = cc
found_in test f (Some x) passes = (x, refl, passes)

-- Declarations of one group.

module _ (group : ℕ × Option ℤ) (slots : List (Option Declared)) (own : List ℕ) (placed : AreOwn group slots own) where
  abbrev of : Option Declared → Bool
  of slot = of_group group (option_map own_group slot)

  placed_here : own ≡ positions of slots
  placed_here = placed ∙ positions-map (of_group group) (option_map own_group) slots

  -- each position is that of a slot
  pub own_within : (i : ℕ) → i < length own → get_or own i 0 < length slots
  own_within i below =
      positions_within of slots i (get_or own i 0) (ap (λ (l : List ℕ). slice_get l i) (sym placed_here) ∙ slice_get-get_or own i 0 below)

  read_all : at_positions slots own ≡ filter of slots
  read_all = ap (at_positions slots) placed_here ∙ at_all of slots

  module _ (test : Declaration → Bool) (apart : (x : Declared) → of (Some x) ≡ false → test (declaration_of x) ≡ false) where
    pub last_own : (i : ℕ) → length own ≤ i → last_such test (listed (at_positions slots (take i own))) ≡ last_such test (listed slots)
    last_own i all =
        ap (λ (l : List ℕ). last_such test (listed (at_positions slots l))) (take_all i own all)
        ∙ ap (λ (l : List (Option Declared)). last_such test (listed l)) read_all
        ∙ last_filter test declaration_of of refl apart slots

    pub none_own : (i : ℕ) → length own ≤ i → list_any test (listed (at_positions slots (take i own))) ≡ false → list_any test (listed slots) ≡ false
    none_own i all none =
        sym (any_filter test declaration_of of refl apart slots)
        ∙ ap (λ (l : List (Option Declared)). list_any test (listed l)) (sym read_all)
        ∙ ap (λ (l : List ℕ). list_any test (listed (at_positions slots l))) (sym (take_all i own all))
        ∙ none

    -- none before a position, where none of the group before it passes
    pub none_front : (i : ℕ) → i < length own → list_any test (listed (at_positions slots (take i own))) ≡ false
        → list_any test (listed (take (get_or own i 0) slots)) ≡ false
    none_front i below none =
        let p = get_or own i 0 in
        let there : slice_get (positions of slots) i ≡ Some p = ap (λ (l : List ℕ). slice_get l i) (sym placed_here) ∙ slice_get-get_or own i 0 below in
        sym (any_filter test declaration_of of refl apart (take p slots))
        ∙ ap (λ (l : List (Option Declared)). list_any test (listed l)) (sym (at_front of slots i p there))
        ∙ ap (λ (l : List ℕ). list_any test (listed (at_positions slots (take i l)))) (sym placed_here)
        ∙ none

-- One declaration more.

-- one more at the end
pub placed_append : (slots more : List (Option Declared)) (one : Declared) (n : ℕ) (group : ℕ × Option ℤ) (before after : List ℕ) → n ≡ length slots
    → more ≡ slots ++ Some one ∷ [] → after ≡ before ++ (if same_group (own_group one) group then n ∷ [] else []) → AreOwn group slots before → AreOwn group more after
placed_append slots more one n group before after size is adds placed =
    placed_more (groups_of slots) (own_group one) group before after
    (adds ∙ ap (λ k. before ++ (if same_group (own_group one) group then k ∷ [] else [])) (size ∙ sym (length-map slots (option_map own_group)))) placed
    ∙ ap (positions (of_group group)) (sym (map-append (option_map own_group) slots (Some one ∷ [])) ∙ ap groups_of (sym is))

kept_at : (xs ys : List ℕ) (i : ℕ) → i < length xs → get_or (xs ++ ys) i 0 ≡ get_or xs i 0
kept_at [] ys i within = absurd (omega (arith, within))
kept_at (x ∷ xs) ys zero within = refl
kept_at (x ∷ xs) ys (suc i) within = kept_at xs ys i (omega (arith, within))

-- those before it keep their places among the positions of their group
pub own_kept : (slots : List (Option Declared)) (one : Declared) (group : ℕ × Option ℤ) (index : ℕ) (own more : List ℕ) → AreOwn group slots own
    → AreOwn group (slots ++ Some one ∷ []) more → index < length own → (index < length more) × (get_or more index 0 ≡ get_or own index 0)
own_kept slots one group index own more placed after within =
    let last : List ℕ = if same_group (own_group one) group then length (groups_of slots) ∷ [] else [] in
    let is : more ≡ own ++ last =
    after ∙ ap (positions (of_group group)) (map-append (option_map own_group) slots (Some one ∷ [])) ∙ positions-push (of_group group) (groups_of slots) (Some (own_group one))
    ∙ ap (λ (l : List ℕ). l ++ last) (sym placed) in (
      omega (arith, within, ap length is, length-append own last),
      ap (λ (l : List ℕ). get_or l index 0) is ∙ kept_at own last index within,
    )

-- One slot emptied.

map_remove : (ks : List ℕ) (i : ℕ) → map suc (remove ks i) ≡ remove (map suc ks) i
map_remove ks i = map-append suc (take i ks) (drop (suc i) ks) ∙ (λ j. sym (take-map suc i ks) j ++ sym (drop-map suc (suc i) ks) j)

module _ {A : Type 0} (test : A → Bool) where
  passing_by : (x : A) (xs : List A) → ((i k : ℕ) → slice_get (positions test xs) i ≡ Some k → (y : A) × (slice_get xs k ≡ Some y) × (test y ≡ true))
      → (b : Bool) → test x ≡ b → (i k : ℕ) → slice_get (if b then 0 ∷ map suc (positions test xs) else map suc (positions test xs)) i ≡ Some k
      → (y : A) × (slice_get (x ∷ xs) k ≡ Some y) × (test y ≡ true)
  passing_by x xs behind true is zero k at = (x, ap (slice_get (x ∷ xs)) (sym (same_Some 0 k at)), is)
  passing_by x xs behind true is (suc i) k at =
      let before = some_suc (slice_get (positions test xs) i) k (sym (slice_get-map suc (positions test xs) i) ∙ at) in
      let there = behind i before.0 before.1 in (there.0, ap (slice_get (x ∷ xs)) (sym before.2) ∙ there.1, there.2)
  passing_by x xs behind false is i k at =
      let before = some_suc (slice_get (positions test xs) i) k (sym (slice_get-map suc (positions test xs) i) ∙ at) in
      let there = behind i before.0 before.1 in (there.0, ap (slice_get (x ∷ xs)) (sym before.2) ∙ there.1, there.2)

  -- what stands at a position passes
  passing : (xs : List A) (i k : ℕ) → slice_get (positions test xs) i ≡ Some k → (y : A) × (slice_get xs k ≡ Some y) × (test y ≡ true)
  passing [] i k at = cc
  passing (x ∷ xs) i k at = passing_by x xs (passing xs) (test x) refl i k at

  module _ (y : A) (fails : test y ≡ false) where
    cleared_by : (x : A) (xs : List A) → ((i k : ℕ) → slice_get (positions test xs) i ≡ Some k → positions test (set xs k y) ≡ remove (positions test xs) i)
        → (b : Bool) → test x ≡ b → (i k : ℕ) → slice_get (if b then 0 ∷ map suc (positions test xs) else map suc (positions test xs)) i ≡ Some k
        → positions test (set (x ∷ xs) k y) ≡ remove (if b then 0 ∷ map suc (positions test xs) else map suc (positions test xs)) i
    cleared_by x xs behind true is zero k at =
        ap (λ n. positions test (set (x ∷ xs) n y)) (sym (same_Some 0 k at))
        ∙ ap (λ b. if b then 0 ∷ map suc (positions test xs) else map suc (positions test xs)) fails
    cleared_by x xs behind true is (suc i) k at =
        let before = some_suc (slice_get (positions test xs) i) k (sym (slice_get-map suc (positions test xs) i) ∙ at) in
        let rest = positions test (set xs before.0 y) in
        ap (λ n. positions test (set (x ∷ xs) n y)) (sym before.2)
        ∙ ap (λ b. if b then 0 ∷ map suc rest else map suc rest) is
        ∙ ap (λ (l : List ℕ). 0 ∷ l) (ap (λ (l : List ℕ). map suc l) (behind i before.0 before.1) ∙ map_remove (positions test xs) i)
    cleared_by x xs behind false is i k at =
        let before = some_suc (slice_get (positions test xs) i) k (sym (slice_get-map suc (positions test xs) i) ∙ at) in
        let rest = positions test (set xs before.0 y) in
        ap (λ n. positions test (set (x ∷ xs) n y)) (sym before.2)
        ∙ ap (λ b. if b then 0 ∷ map suc rest else map suc rest) is
        ∙ ap (λ (l : List ℕ). map suc l) (behind i before.0 before.1) ∙ map_remove (positions test xs) i

    -- what doesn't pass is put where one passed
    cleared : (xs : List A) (i k : ℕ) → slice_get (positions test xs) i ≡ Some k → positions test (set xs k y) ≡ remove (positions test xs) i
    cleared [] i k at = cc
    cleared (x ∷ xs) i k at = cleared_by x xs (cleared xs) (test x) refl i k at

    -- or where none did
    untouched : (xs : List A) (k : ℕ) (x : A) → slice_get xs k ≡ Some x → test x ≡ false → positions test (set xs k y) ≡ positions test xs
    untouched [] k x at apart = cc
    untouched (z ∷ xs) zero x at apart =
        ap (λ b. if b then 0 ∷ map suc (positions test xs) else map suc (positions test xs)) (fails ∙ sym (ap test (same_Some z x at) ∙ apart))
    untouched (z ∷ xs) (suc k) x at apart = ap (λ (l : List ℕ). if test z then 0 ∷ map suc l else map suc l) (untouched xs k x at apart)

other_group : (group other : ℕ × Option ℤ) (slot : Option (ℕ × Option ℤ)) → same_group group other ≡ false → of_group group slot ≡ true → of_group other slot ≡ false
other_group group other None apart is = refl
other_group group other (Some own) apart is = ap (λ (g : ℕ × Option ℤ). same_group g other) (group_is own group is) ∙ apart

out_by : (groups : List (Option (ℕ × Option ℤ))) (group other : ℕ × Option ℤ) (index position : ℕ) (own before : List ℕ) → slice_get own index ≡ Some position
    → own ≡ positions (of_group group) groups → before ≡ positions (of_group other) groups
    → (b : Bool) → same_group group other ≡ b → (if b then remove before index else before) ≡ positions (of_group other) (set groups position None)
out_by groups group other index position own before at placed placed_other true same =
    ap (λ (l : List ℕ). remove l index) placed_other
    ∙ sym (cleared (of_group other) None refl groups index position
    (ap (λ (g : ℕ × Option ℤ). slice_get (positions (of_group g) groups) index) (sym (group_is group other same)) ∙ ap (λ (l : List ℕ). slice_get l index) (sym placed) ∙ at))
out_by groups group other index position own before at placed placed_other false apart =
    let there = passing (of_group group) groups index position (ap (λ (l : List ℕ). slice_get l index) (sym placed) ∙ at) in
    placed_other ∙ sym (untouched (of_group other) None refl groups position there.0 there.1 (other_group group other there.0 apart there.2))

-- of one group's positions one is taken out, and its slot is emptied
pub placed_out : (slots new : List (Option Declared)) (group other : ℕ × Option ℤ) (index position : ℕ) (own before after : List ℕ) → slice_get own index ≡ Some position
    → AreOwn group slots own → AreOwn other slots before → after ≡ (if same_group group other then remove before index else before)
    → new ≡ set slots position None → AreOwn other new after
placed_out slots new group other index position own before after at placed placed_other made is =
    made
    ∙ out_by (groups_of slots) group other index position own before at placed placed_other (same_group group other) refl
    ∙ ap (positions (of_group other)) (sym (map-set (option_map own_group) slots position None) ∙ ap groups_of (sym is))
