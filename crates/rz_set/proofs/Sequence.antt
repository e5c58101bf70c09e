-- A change of several resources is what is left when each of them is changed alone, in order.
use Rattle.std.proofs.Common.{◌≡◌, ℤ, ◌||◌, Bool, true, false, if◌then◌else◌, List, [], ◌∷◌, ◌++◌, filter, flat_map, fold, map, Option, Some, None, refl, sym, ap, ◌∙◌, append_assoc, append-nil}
use Rattle.std.proofs.lemmas.Grind.{flat_map-append}
use Rattle.std.proofs.lemmas.List.Folds.{list_any-append}
use Rattle.std.specs.Int.{cast_unsigned, w16}
use Rattle.std.specs.List.{AllByRecursion, list_any}
use Rattle.std.specs.Option.{unwrap_or}
use Rattle.rz_core.proofs.Tests.{or_false}
use Rattle.rz_core.specs.Resources.{same_key, KeysDiffer}
use Rattle.rz_core.specs.declared.resource.OsType.{OsType}
use Rattle.rz_core.specs.declared.resource.Resource.{Resource}
use Rattle.rz_set.specs.After.{under_head}
use Rattle.rz_set.specs.Change.{change_one, changed, in_place_of, is_taken, MayHaveId}
use Rattle.rz_set.specs.Choice.{chooses, chosen}
use Rattle.rz_set.specs.Fates.{StayApart}
use Rattle.rz_set.specs.declared.pick.Head.{Head}
use Rattle.rz_set.specs.declared.pick.Pick.{Pick}
use Rattle.rz_set.proofs.Changes.{or_nothing}
use Rattle.rz_set.proofs.Choices.{own_key}
use Rattle.rz_set.proofs.Kept.{differ_kept}
use Rattle.rz_set.proofs.Named.{parts}
use Rattle.rz_set.proofs.Picks.{keys_meet, stay_apart, stay_free}
use Rattle.rz_set.proofs.Puts.{flipped, same_id, same_to}

-- one of these has the key of a resource
abbrev among : List Resource → Resource → Bool
among cs r = list_any (λ c. same_key c r) cs

or_nil : (b : Bool) → (b || false) ≡ b
or_nil true = refl
or_nil false = refl

or_both : (k t s : Bool) → (k || (t || s)) ≡ ((k || t) || (k || s))
or_both true t s = refl
or_both false t s = refl

or_left : (k t s : Bool) → (k || (t || s)) ≡ ((k || t) || s)
or_left true t s = refl
or_left false t s = refl

or_right : (k t s : Bool) → (k || (t || s)) ≡ (t || (k || s))
or_right true true s = refl
or_right true false s = refl
or_right false t s = refl

unless : (b d : Bool) → (b ≡ true → d ≡ true) → d ≡ false → b ≡ false
unless true d so is = sym (so refl) ∙ is
unless false d so is = refl

-- Two changes, one after the other.

-- what two tests have to do with each other, so that the changes by them do not meet
record DoNotMeet (t s : Resource → Bool) (head : Head) : Type 0 where
  apart : (r : Resource) → t r ≡ true → s r ≡ false
  past : (r : Resource) → t r ≡ true → s (under_head head r) ≡ false
  away : (y r : Resource) → s y ≡ true → t r ≡ true → same_key (under_head head y) (under_head head r) ≡ false
  free : (r : Resource) (list : List Resource) → s r ≡ true → is_taken t head list r ≡ false

module _ (t s : Resource → Bool) (head : Head) where
  abbrev taken_if : Bool → Resource → List Resource → Resource → Bool
  taken_if b x kept r = list_any (λ new. same_key new r) (map (under_head head) (if b then x ∷ kept else kept))

  taken_either : (xs : List Resource) (r : Resource) → is_taken (λ x. t x || s x) head xs r ≡ (is_taken t head xs r || is_taken s head xs r)
  taken_either [] r = refl
  taken_either (x ∷ xs) r = by (taken_either xs r) (t x) (s x)
    where
      by : is_taken (λ x. t x || s x) head xs r ≡ (is_taken t head xs r || is_taken s head xs r) → (a b : Bool)
          → taken_if (a || b) x (filter (λ x. t x || s x) xs) r ≡ (taken_if a x (filter t xs) r || taken_if b x (filter s xs) r)
      by later true true =
          ap (λ (b : Bool). same_key (under_head head x) r || b) later ∙ or_both (same_key (under_head head x) r) (is_taken t head xs r) (is_taken s head xs r)
      by later true false =
          ap (λ (b : Bool). same_key (under_head head x) r || b) later ∙ or_left (same_key (under_head head x) r) (is_taken t head xs r) (is_taken s head xs r)
      by later false true =
          ap (λ (b : Bool). same_key (under_head head x) r || b) later ∙ or_right (same_key (under_head head x) r) (is_taken t head xs r) (is_taken s head xs r)
      by later false false = later

  module _ (not_met : DoNotMeet t s head) where
    none_taken : (r : Resource) → t r ≡ true → (xs : List Resource) → is_taken s head xs (under_head head r) ≡ false
    none_taken r is [] = refl
    none_taken r is (x ∷ xs) = by (none_taken r is xs) (s x) refl
      where
        by : is_taken s head xs (under_head head r) ≡ false → (b : Bool) → s x ≡ b → taken_if b x (filter s xs) (under_head head r) ≡ false
        by later true one = λ i. not_met.away x r one is i || later i
        by later false one = later

    module _ (list : List Resource) where
      same_chosen : (xs : List Resource) → filter s (flat_map (in_place_of t head list) xs) ≡ filter s xs
      same_chosen [] = refl
      same_chosen (x ∷ xs) = by (same_chosen xs) (t x) refl (is_taken t head list x) refl (s x) refl
        where
          by : filter s (flat_map (in_place_of t head list) xs) ≡ filter s xs → (b : Bool) → t x ≡ b → (k : Bool) → is_taken t head list x ≡ k → (e : Bool) → s x ≡ e
              → filter s ((if b then under_head head x ∷ [] else if k then [] else x ∷ []) ++ flat_map (in_place_of t head list) xs) ≡ (if e then x ∷ filter s xs else filter s xs)
          by later true is k taken true one = let no : true ≡ false = sym one ∙ not_met.apart x is in cc
          by later true is k taken false one =
              ap (λ (b : Bool). if b then under_head head x ∷ filter s (flat_map (in_place_of t head list) xs) else filter s (flat_map (in_place_of t head list) xs)) (not_met.past x is) ∙ later
          by later false is true taken true one = let no : true ≡ false = sym taken ∙ not_met.free x list one in cc
          by later false is true taken false one = later
          by later false is false taken true one =
              ap (λ (b : Bool). if b then x ∷ filter s (flat_map (in_place_of t head list) xs) else filter s (flat_map (in_place_of t head list) xs)) one ∙ ap (λ (l : List Resource). x ∷ l) later
          by later false is false taken false one =
              ap (λ (b : Bool). if b then x ∷ filter s (flat_map (in_place_of t head list) xs) else filter s (flat_map (in_place_of t head list) xs)) one ∙ later

      taken_after : (r : Resource) → is_taken s head (changed t head list) r ≡ is_taken s head list r
      taken_after r = ap (λ (l : List Resource). list_any (λ new. same_key new r) (map (under_head head) l)) (same_chosen list)

      in_one_place : (r : Resource)
          → flat_map (in_place_of s head (changed t head list)) (in_place_of t head list r) ≡ in_place_of (λ x. t x || s x) head list r
      in_one_place r = by (t r) refl (is_taken t head list r) refl (s r) refl
        where
          by : (b : Bool) → t r ≡ b → (k : Bool) → is_taken t head list r ≡ k → (e : Bool) → s r ≡ e
              → flat_map (in_place_of s head (changed t head list)) (if b then under_head head r ∷ [] else if k then [] else r ∷ [])
              ≡ (if b || e then under_head head r ∷ [] else if is_taken (λ x. t x || s x) head list r then [] else r ∷ [])
          by true is k taken e one =
              append-nil (in_place_of s head (changed t head list) (under_head head r))
              ∙ λ i. if not_met.past r is i then under_head head (under_head head r) ∷ [] else if (taken_after (under_head head r) ∙ none_taken r is list) i then [] else under_head head r ∷ []
          by false is true taken true one = let no : true ≡ false = sym taken ∙ not_met.free r list one in cc
          by false is true taken false one =
              sym (ap (λ (b : Bool). if b then [] else r ∷ []) (taken_either list r ∙ ap (λ (b : Bool). b || is_taken s head list r) taken))
          by false is false taken true one =
              append-nil (in_place_of s head (changed t head list) r)
              ∙ ap (λ (b : Bool). if b then under_head head r ∷ [] else if is_taken s head (changed t head list) r then [] else r ∷ []) one
          by false is false taken false one =
              append-nil (in_place_of s head (changed t head list) r)
              ∙ ap (λ (b : Bool). if b then under_head head r ∷ [] else if is_taken s head (changed t head list) r then [] else r ∷ []) one
              ∙ ap (λ (b : Bool). if b then [] else r ∷ []) (taken_after r)
              ∙ sym (ap (λ (b : Bool). if b then [] else r ∷ []) (taken_either list r ∙ ap (λ (b : Bool). b || is_taken s head list r) taken))

      in_each_place : (xs : List Resource)
          → flat_map (in_place_of s head (changed t head list)) (flat_map (in_place_of t head list) xs) ≡ flat_map (in_place_of (λ x. t x || s x) head list) xs
      in_each_place [] = refl
      in_each_place (x ∷ xs) =
          flat_map-append (in_place_of s head (changed t head list)) (in_place_of t head list x) (flat_map (in_place_of t head list) xs)
          ∙ λ i. in_one_place x i ++ in_each_place xs i

      both_changed : changed s head (changed t head list) ≡ changed (λ x. t x || s x) head list
      both_changed = in_each_place list

-- One more.

module _ (head : Head) where
  -- two resources that both come under the head, the second after the first
  abbrev Separate : Resource → Resource → Type 0
  Separate c a = (same_key a c ≡ false) × (same_key (under_head head a) c ≡ false) × (same_key (under_head head a) (under_head head c) ≡ false)

  under_alike : (a r : Resource) → same_key a r ≡ true → same_key (under_head head a) (under_head head r) ≡ true
  under_alike a r is = keys_meet (under_head head a) (under_head head r) refl (by head.id)
    where
      by : (o : Option ℤ) → cast_unsigned w16 (unwrap_or o a.id) ≡ cast_unsigned w16 (unwrap_or o r.id)
      by None = same_id a r is
      by (Some id) = refl

  -- what is far from one that is changed
  abbrev Far : Resource → Resource → Type 0
  Far c r = (same_key c r ≡ false) × (same_key c (under_head head r) ≡ false) × ((y : Resource) → same_key c y ≡ true → same_key (under_head head y) (under_head head r) ≡ false)

  far_like : (c a r : Resource) → Separate c a → same_key a r ≡ true → Far c r
  far_like c a r apart is = (
    flipped c r ∙ same_to a r c is ∙ apart.0,
    flipped c (under_head head r) ∙ same_to (under_head head a) (under_head head r) c (under_alike a r is) ∙ apart.1,
    λ y like.
        flipped (under_head head y) (under_head head r)
        ∙ same_to (under_head head a) (under_head head r) (under_head head y) (under_alike a r is)
        ∙ flipped (under_head head a) (under_head head y)
        ∙ same_to (under_head head c) (under_head head y) (under_head head a) (under_alike c y like)
        ∙ flipped (under_head head c) (under_head head a)
        ∙ apart.2,
  )

  among_far : (c : Resource) (cs : List Resource) → AllByRecursion (Separate c) cs → (r : Resource) → among cs r ≡ true → Far c r
  among_far c [] apart r is = cc
  among_far c (a ∷ cs) apart r is = by (among_far c cs apart.1 r) (same_key a r) refl is
    where
      by : (among cs r ≡ true → Far c r) → (b : Bool) → same_key a r ≡ b → (b || among cs r) ≡ true → Far c r
      by later true like is = far_like c a r apart.0 like
      by later false like is = later is

  module _ (c : Resource) (cs : List Resource) (apart : AllByRecursion (Separate c) cs) where
    none_here : (r : Resource) → same_key c r ≡ true → (list : List Resource) → is_taken (among cs) head list r ≡ false
    none_here r is [] = refl
    none_here r is (x ∷ xs) = by (none_here r is xs) (among cs x) refl
      where
        by : is_taken (among cs) head xs r ≡ false → (b : Bool) → among cs x ≡ b
            → list_any (λ new. same_key new r) (map (under_head head) (if b then x ∷ filter (among cs) xs else filter (among cs) xs)) ≡ false
        by later true one = λ i. (flipped (under_head head x) r ∙ same_to c r (under_head head x) is ∙ (among_far c cs apart x one).1) i || later i
        by later false one = later

    do_not_meet : DoNotMeet (among cs) (same_key c) head
    do_not_meet = record {
      apart = λ r is. (among_far c cs apart r is).0;
      past = λ r is. (among_far c cs apart r is).1;
      away = λ y r one is. (among_far c cs apart r is).2 y one;
      free = λ r list one. none_here r one list;
    }

    one_more : (list : List Resource) → changed (same_key c) head (changed (among cs) head list) ≡ changed (among (cs ++ c ∷ [])) head list
    one_more list =
        both_changed (among cs) (same_key c) head do_not_meet list
        ∙ ap (λ (test : Resource → Bool). changed test head list) (λ i r. one_more_test r i)
      where
        one_more_test : (r : Resource) → (among cs r || same_key c r) ≡ among (cs ++ c ∷ []) r
        one_more_test r = sym (list_any-append (λ b. same_key b r) cs (c ∷ []) ∙ ap (λ (b : Bool). among cs r || b) (or_nil (same_key c r)))

  -- All of them.

  module _ (test : Resource → Bool) (apart : StayApart test head)
      (free : (a b : Resource) → test a ≡ true → test b ≡ true → same_key (under_head head a) b ≡ true → same_key a b ≡ true) where
    separate_all : (c : Resource) → test c ≡ true → (cs : List Resource) → AllByRecursion (λ a. test a ≡ true) cs → among cs c ≡ false → AllByRecursion (Separate c) cs
    separate_all c is [] are other = tt
    separate_all c is (a ∷ cs) are other =
        let others = or_false (same_key a c) (among cs c) other in (
          (
            others.0,
            unless (same_key (under_head head a) c) (same_key a c) (free a c are.0 is) others.0,
            unless (same_key (under_head head a) (under_head head c)) (same_key a c) (apart a c are.0 is) others.0,
          ),
          separate_all c is cs are.1 others.1,
        )

    and_last : (cs : List Resource) (c : Resource) → AllByRecursion (λ a. test a ≡ true) cs → test c ≡ true → AllByRecursion (λ a. test a ≡ true) (cs ++ c ∷ [])
    and_last [] c are is = (is, tt)
    and_last (a ∷ cs) c are is = (are.0, and_last cs c are.1 is)

    all_in_order : (done cs list : List Resource) → KeysDiffer done cs → AllByRecursion (λ a. test a ≡ true) done → AllByRecursion (λ a. test a ≡ true) cs
        → fold (change_one head) (changed (among done) head list) cs ≡ changed (among (done ++ cs)) head list
    all_in_order done [] list differ were are = ap (λ (l : List Resource). changed (among l) head list) (sym (append-nil done))
    all_in_order done (c ∷ cs) list differ were are =
        ap (λ (l : List Resource). fold (change_one head) l cs) (one_more c done (separate_all c are.0 done were differ.0) list)
        ∙ all_in_order (done ++ c ∷ []) cs list differ.1 (and_last done c were are.0) are.1
        ∙ ap (λ (l : List Resource). changed (among l) head list) (append_assoc done (c ∷ []) cs)

  -- The first list, and the last.

  none_yet : (list : List Resource) (r : Resource) → is_taken (among []) head list r ≡ false
  none_yet [] r = refl
  none_yet (x ∷ xs) r = none_yet xs r

  as_it_was : (list xs : List Resource) → flat_map (in_place_of (among []) head list) xs ≡ xs
  as_it_was list [] = refl
  as_it_was list (x ∷ xs) = λ i. (if none_yet list x i then [] else x ∷ []) ++ as_it_was list xs i

  module _ (t u : Resource → Bool) where
    filter_alike : (xs : List Resource) → AllByRecursion (λ r. t r ≡ u r) xs → filter t xs ≡ filter u xs
    filter_alike [] are = refl
    filter_alike (x ∷ xs) are = λ i. if are.0 i then x ∷ filter_alike xs are.1 i else filter_alike xs are.1 i

    places_alike : (list xs : List Resource) → AllByRecursion (λ r. t r ≡ u r) list → AllByRecursion (λ r. t r ≡ u r) xs
        → flat_map (in_place_of t head list) xs ≡ flat_map (in_place_of u head list) xs
    places_alike list [] all are = refl
    places_alike list (x ∷ xs) all are =
        λ i. (if are.0 i then under_head head x ∷ [] else if list_any (λ new. same_key new x) (map (under_head head) (filter_alike list all i)) then [] else x ∷ []) ++ places_alike list xs all are.1 i

-- The chosen ones are those that have the key of a chosen one.

module _ (test : Resource → Bool) where
  unlike_rest : (x : Resource) (before xs : List Resource) → ((y : Resource) → among before y ≡ false → same_key x y ≡ false)
      → KeysDiffer before xs → AllByRecursion (λ r. same_key x r ≡ false) xs
  unlike_rest x before [] out differ = tt
  unlike_rest x before (y ∷ ys) out differ =
      (out y differ.0, unlike_rest x (before ++ y ∷ []) ys (λ z none. out z (parts before y z none).0) differ.1)

  none_among : (x : Resource) (xs : List Resource) → AllByRecursion (λ r. same_key x r ≡ false) xs → among (filter test xs) x ≡ false
  none_among x [] other = refl
  none_among x (y ∷ ys) other = by (none_among x ys other.1) (test y)
    where
      by : among (filter test ys) x ≡ false → (b : Bool) → among (if b then y ∷ filter test ys else filter test ys) x ≡ false
      by later true = λ i. (flipped y x ∙ other.0) i || later i
      by later false = later

  with_first : (x : Resource) (g : Resource → Bool) (xs : List Resource) → AllByRecursion (λ r. same_key x r ≡ false) xs
      → AllByRecursion (λ r. g r ≡ test r) xs → AllByRecursion (λ r. (same_key x r || g r) ≡ test r) xs
  with_first x g [] other are = tt
  with_first x g (y ∷ ys) other are = (ap (λ (b : Bool). b || g y) other.0 ∙ are.0, with_first x g ys other.1 are.1)

  keys_tell : (before xs : List Resource) → KeysDiffer before xs → AllByRecursion (λ r. among (filter test xs) r ≡ test r) xs
  keys_tell before [] differ = tt
  keys_tell before (x ∷ xs) differ = by (keys_tell (before ++ x ∷ []) xs differ.1) (test x) refl
    where
      other : AllByRecursion (λ r. same_key x r ≡ false) xs
      other = unlike_rest x (before ++ x ∷ []) xs (λ z none. or_nothing (same_key x z) (parts before x z none).1) differ.1

      by : AllByRecursion (λ r. among (filter test xs) r ≡ test r) xs → (b : Bool) → test x ≡ b
          → AllByRecursion (λ r. among (if b then x ∷ filter test xs else filter test xs) r ≡ test r) (x ∷ xs)
      by later true is = ((λ i. own_key x i || among (filter test xs) x) ∙ sym is, with_first x (among (filter test xs)) xs other later)
      by later false is = (none_among x xs other ∙ sym is, later)

  all_pass : (xs : List Resource) → AllByRecursion (λ r. test r ≡ true) (filter test xs)
  all_pass [] = tt
  all_pass (x ∷ xs) = by (all_pass xs) (test x) refl
    where
      by : AllByRecursion (λ r. test r ≡ true) (filter test xs) → (b : Bool) → test x ≡ b
          → AllByRecursion (λ r. test r ≡ true) (if b then x ∷ filter test xs else filter test xs)
      by later true is = (is, later)
      by later false is = later

pub one_after_another : (kind : OsType) (pick : Pick) (head : Head) (list : List Resource) → KeysDiffer [] list → MayHaveId pick head
    → changed (chooses kind pick list) head list ≡ fold (change_one head) list (chosen kind pick list)
one_after_another kind pick head list differ may =
    let test : Resource → Bool = chooses kind pick list in
    let alike = keys_tell test [] list differ in
    sym (
    ap (λ (l : List Resource). fold (change_one head) l (filter test list)) (sym (as_it_was head list list))
    ∙ all_in_order head test (stay_apart kind pick head list may) (stay_free kind pick head list may) [] (filter test list) list
    (differ_kept test [] [] list (λ r none. none) differ) tt (all_pass test list)
    ∙ places_alike head (among (filter test list)) test list list alike alike
    )
