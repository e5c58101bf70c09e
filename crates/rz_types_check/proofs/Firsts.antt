-- Names that are found by where they stood first, with one more and with fewer.
use Rattle.std.proofs.Common.{◌≡◌, ◌⊎◌, inl, inr, ⊎_elim, ℕ, zero, suc, Bool, true, false, ◌||◌, cond, List, [], ◌∷◌, ◌++◌, length, map, take, Option, Some, None, refl, sym, ap, subst, ◌∙◌, arith}
use Rattle.std.specs.HashMap.{get_by, HashMap}
use Rattle.std.specs.Map.{lookup}
use Rattle.std.specs.Option.{option_and_then, option_map_or}
use Rattle.std.specs.Prelude.{if◌then◌else◌, slice_get}
use Rattle.std.specs.Str.{bytes_eq, str_eq_ignore_ascii_case, str_to_ascii_lowercase}
use Rattle.std.proofs.Math.Bool.{or-true}
use Rattle.std.proofs.lemmas.List.{map-append, take_all}
use Rattle.std.proofs.lemmas.List.Folds.{list_any-append}
use Rattle.std.proofs.lemmas.Slice.Eq.{bytes_eq-Decides}
use Rattle.rz_core.proofs.Tests.{by_test, or_false}
use Rattle.rz_core.specs.declared.resource.Word.{Word}
use Rattle.rz_types.specs.Walk.{is_among}
use Rattle.rz_types_check.specs.Firsts.{first_at, stands_at, AreFound}

-- The front of a list with one name more, and the front of a front.

take_more : (count : ℕ) (names : List Word) (one : Word) → (take count (names ++ one ∷ []) ≡ take count names) ⊎ (take count (names ++ one ∷ []) ≡ names ++ one ∷ [])
take_more zero names one = inl refl
take_more (suc count) [] one = inr (by count)
  where
    by : (count : ℕ) → one ∷ take count [] ≡ one ∷ []
    by zero = refl
    by (suc count) = refl
take_more (suc count) (first ∷ names) one =
    ⊎_elim (λ same. inl (ap (λ (l : List Word). first ∷ l) same)) (λ same. inr (ap (λ (l : List Word). first ∷ l) same)) (take_more count names one)

take_less : (count most : ℕ) (names : List Word) → (take count (take most names) ≡ take count names) ⊎ (take count (take most names) ≡ take most names)
take_less zero most names = inl refl
take_less (suc count) zero names = inr refl
take_less (suc count) (suc most) [] = inl refl
take_less (suc count) (suc most) (first ∷ names) =
    ⊎_elim (λ same. inl (ap (λ (l : List Word). first ∷ l) same)) (λ same. inr (ap (λ (l : List Word). first ∷ l) same)) (take_less count most names)

-- Where a name stands.

module _ (name : List ℕ) where
  abbrev is_it : Word → Bool
  is_it one = str_eq_ignore_ascii_case one.bytes name

  -- another name at the end
  other_last : (names : List Word) (one : Word) (place : Option ℕ) → is_it one ≡ false → stands_at (names ++ one ∷ []) name place ≡ stands_at names name place
  other_last names one None apart = refl
  other_last [] one (Some zero) apart = apart
  other_last [] one (Some (suc n)) apart = refl
  other_last (first ∷ names) one (Some zero) apart = refl
  other_last (first ∷ names) one (Some (suc n)) apart = other_last names one (Some n) apart

  -- what stands stays
  still : (names : List Word) (one : Word) (place : Option ℕ) → stands_at names name place ≡ true → stands_at (names ++ one ∷ []) name place ≡ true
  still names one None there = there
  still [] one (Some n) there = absurd cc
  still (first ∷ names) one (Some zero) there = there
  still (first ∷ names) one (Some (suc n)) there = still names one (Some n) there

  -- the name at the end
  at_last : (names : List Word) (one : Word) → is_it one ≡ true → stands_at (names ++ one ∷ []) name (Some (length names)) ≡ true
  at_last [] one is = is
  at_last (first ∷ names) one is = at_last names one is

  -- nothing stands after the end
  beyond : (names : List Word) (count : ℕ) → stands_at (take count names) name (Some (length names)) ≡ false
  beyond names zero = refl
  beyond [] (suc count) = refl
  beyond (first ∷ names) (suc count) = beyond names count

  -- what is nowhere isn't in the front
  none_front : (names : List Word) (count : ℕ) → is_among name names ≡ false → is_among name (take count names) ≡ false
  none_front names zero none = refl
  none_front [] (suc count) none = refl
  none_front (first ∷ names) (suc count) none =
      let parts = or_false (is_it first) (is_among name names) none in
      λ i. parts.0 i || none_front names count parts.1 i

  more_here : (names : List Word) (one : Word) → is_it one ≡ true → is_among name (names ++ one ∷ []) ≡ true
  more_here names one is =
      list_any-append is_it names (one ∷ []) ∙ ap (λ (b : Bool). is_among name names || (b || false)) is ∙ or-true (is_among name names)

  more_apart : (names : List Word) (one : Word) → is_it one ≡ false → is_among name (names ++ one ∷ []) ≡ is_among name names
  more_apart names one apart =
      list_any-append is_it names (one ∷ []) ∙ ap (λ (b : Bool). is_among name names || (b || false)) apart ∙ or_none (is_among name names)
    where
      or_none : (b : Bool) → (b || false) ≡ b
      or_none true = refl
      or_none false = refl

-- Names that are found.

take_map : {B : Type 0} (word : B → Word) (count : ℕ) (names : List B) → take count (map word names) ≡ map word (take count names)
take_map word zero names = refl
take_map word (suc count) [] = refl
take_map word (suc count) (one ∷ names) = ap (λ (l : List Word). word one ∷ l) (take_map word count names)

front : (names : List Word) (one : Word) → take (length names) (names ++ one ∷ []) ≡ names
front [] one = refl
front (first ∷ names) one = ap (λ (l : List Word). first ∷ l) (front names one)

module _ {K S : Type 0} (bytes : K → List ℕ) where
  abbrev Found : HashMap K ℕ S → K → List Word → Type 0
  Found firsts key names = is_among (bytes key) names ≡ stands_at names (bytes key) (first_at bytes firsts key)

  pub whole : (firsts : HashMap K ℕ S) (names : List Word) → AreFound bytes firsts names → (key : K) → Found firsts key names
  whole firsts names found key = subst (Found firsts key) (take_all (length names) names (omega arith)) (found key (length names))

  -- fewer names
  pub found_front : (firsts : HashMap K ℕ S) (names : List Word) (most : ℕ) → AreFound bytes firsts names → AreFound bytes firsts (take most names)
  found_front firsts names most found key count =
      ⊎_elim (λ same. subst (Found firsts key) (sym same) (found key count)) (λ same. subst (Found firsts key) (sym same) (found key most)) (take_less count most names)

  -- a list that was cut, and one to which a name was appended or not
  module _ {B : Type 0} (word : B → Word) where
    pub found_cut : (firsts : HashMap K ℕ S) (old new : List B) (count : ℕ) → new ≡ take count old → AreFound bytes firsts (map word old) → AreFound bytes firsts (map word new)
    found_cut firsts old new count is found =
        subst (AreFound bytes firsts) (take_map word count old ∙ sym (ap (map word) is)) (found_front firsts (map word old) count found)

    pub found_pushed : (firsts : HashMap K ℕ S) (old new : List B) (one : B) (ok : Bool) → new ≡ (if ok then old ++ one ∷ [] else old)
        → AreFound bytes firsts (map word old ++ word one ∷ []) → AreFound bytes firsts (map word new)
    found_pushed firsts old new one true is more = subst (AreFound bytes firsts) (sym (ap (map word) is ∙ map-append word old (one ∷ []))) more
    found_pushed firsts old new one false is more =
        subst (AreFound bytes firsts) (front (map word old) (word one) ∙ sym (ap (map word) is)) (found_front firsts (map word old ++ word one ∷ []) (length (map word old)) more)

  -- the same entries
  pub found_same : (old new : HashMap K ℕ S) (names : List Word) → new.entries ≡ old.entries → AreFound bytes old names → AreFound bytes new names
  found_same old new names same found key count =
      found key count
      ∙ ap (λ (entries : List (K × ℕ)). stands_at (take count names) (bytes key) (lookup (λ (other : K). str_eq_ignore_ascii_case (bytes key) (bytes other)) entries)) (sym same)

  module _ (old : HashMap K ℕ S) (names : List Word) (one : Word) (own : K) (is : bytes own ≡ one.bytes) (found : AreFound bytes old names) where
    -- of a key with the name it is told at its place whether it is there
    there_is : (key : K) → is_it (bytes key) one ≡ true → stands_at names (bytes key) (first_at bytes old key) ≡ stands_at names one.bytes (first_at bytes old own)
    there_is key here =
        let same : str_to_ascii_lowercase one.bytes ≡ str_to_ascii_lowercase (bytes key) =
        (bytes_eq-Decides (str_to_ascii_lowercase one.bytes) (str_to_ascii_lowercase (bytes key))).0 here in
        ap (λ (low : List ℕ). option_map_or (λ (word : Word). bytes_eq (str_to_ascii_lowercase word.bytes) low)
        (option_and_then (slice_get names) (get_by (λ (other : K). bytes_eq low (str_to_ascii_lowercase (bytes other))) old)) false) (sym same)
        ∙ ap (λ (name : List ℕ). stands_at names one.bytes (get_by (λ (other : K). str_eq_ignore_ascii_case name (bytes other)) old)) (sym is)

    all_there : (firsts : HashMap K ℕ S) (key : K) → (is_it (bytes key) one ≡ true → stands_at (names ++ one ∷ []) (bytes key) (first_at bytes firsts key) ≡ true)
        → (is_it (bytes key) one ≡ false → first_at bytes firsts key ≡ first_at bytes old key) → Found firsts key (names ++ one ∷ [])
    all_there firsts key here apart =
        by_test (Found firsts key (names ++ one ∷ [])) (is_it (bytes key) one)
        (λ yes. more_here (bytes key) names one yes ∙ sym (here yes))
        (λ no. more_apart (bytes key) names one no ∙ whole old names found key ∙ sym (other_last (bytes key) names one (first_at bytes old key) no)
        ∙ ap (stands_at (names ++ one ∷ []) (bytes key)) (sym (apart no)))

    -- a name more that stands before
    pub found_again : stands_at names one.bytes (first_at bytes old own) ≡ true → AreFound bytes old (names ++ one ∷ [])
    found_again there key count =
        ⊎_elim (λ same. subst (Found old key) (sym same) (found key count))
        (λ same. subst (Found old key) (sym same) (all_there old key (λ yes. still (bytes key) names one (first_at bytes old key) (there_is key yes ∙ there)) (λ no. refl)))
        (take_more count names one)

    module _ (new : HashMap K ℕ S) (none : stands_at names one.bytes (first_at bytes old own) ≡ false)
        (puts : (key : K) → first_at bytes new key ≡ cond (str_eq_ignore_ascii_case (bytes own) (bytes key)) (Some (length names)) (first_at bytes old key)) where
      put_by : (key : K) (b : Bool) → is_it (bytes key) one ≡ b → first_at bytes new key ≡ cond b (Some (length names)) (first_at bytes old key)
      put_by key b is_b =
          puts key
          ∙ ap (λ (b : Bool). cond b (Some (length names)) (first_at bytes old key)) (ap (λ (name : List ℕ). str_eq_ignore_ascii_case name (bytes key)) is ∙ is_b)

      front_is : (key : K) (count : ℕ) → Found new key (take count names)
      front_is key count =
          by_test (Found new key (take count names)) (is_it (bytes key) one)
          (λ yes. none_front (bytes key) names count (whole old names found key ∙ there_is key yes ∙ none)
          ∙ sym (ap (stands_at (take count names) (bytes key)) (put_by key true yes) ∙ beyond (bytes key) names count))
          (λ no. found key count ∙ ap (stands_at (take count names) (bytes key)) (sym (put_by key false no)))

      -- a name more that is noted where it stands
      pub found_more : AreFound bytes new (names ++ one ∷ [])
      found_more key count =
          ⊎_elim (λ same. subst (Found new key) (sym same) (front_is key count))
          (λ same. subst (Found new key) (sym same)
          (all_there new key (λ yes. ap (stands_at (names ++ one ∷ []) (bytes key)) (put_by key true yes) ∙ at_last (bytes key) names one yes) (λ no. put_by key false no)))
          (take_more count names one)
