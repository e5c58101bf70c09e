-- The resources of a sample fit a fork, and their image is admitted as them.
use Rattle.std.proofs.Common.{◌≡◌, ℕ, zero, suc, ◌+◌, ◌*◌, ◌^◌, ◌<◌, ◌≤◌, ◌==◌, false, List, [], ◌∷◌, ◌++◌, map, length, replicate, None, Ok, refl, sym, ap, subst, ◌∙◌, arith, length-append}
use Rattle.std.specs.Prelude.{nat_lt}
use Rattle.std.specs.List.{flat_map, list_any, range_with_len, AllByRecursion}
use Rattle.std.proofs.lemmas.Bool.Decides.{nat_tests}
use Rattle.std.proofs.lemmas.List.{append-nil, length-map, map-append}
use Rattle.std.proofs.lemmas.List.FromFn.{length-range_with_len}
use Rattle.rz_core.proofs.Lists.{all_append}
use Rattle.rz_core.specs.Lists.{first_of, with_front}
use Rattle.rz_core.specs.Numbers.{be, length-be_4}
use Rattle.rz_core.specs.Resources.{same_key, KeysDiffer}
use Rattle.rz_core.specs.declared.resource.Resource.{Resource}
use Rattle.rz_fork.proofs.Law.{image_admitted, IsReadable}
use Rattle.rz_fork.proofs.Written.{HasShortId}
use Rattle.rz_fork.specs.Admit.{admitted}
use Rattle.rz_fork.specs.Contents.{FitsFork}
use Rattle.rz_fork.specs.Image.{data_area, first_limit, group_of, grouped, image, kinds_of, limit_of, lists_end, name_list, new_kind, passed, stored_data}
use Rattle.rz_tools_laws.proofs.Told.{bytes_few, bytes_small}
use Rattle.rz_tools_laws.specs.Fields.{sample_bytes, sample_kind, sample_list, sample_resource}

-- Each resource.

each : (P : Resource → Type 0) → ((k : ℕ) → k < 32768 → P (sample_resource k)) → (a n : ℕ) → a + n ≤ 32768 → AllByRecursion P (map sample_resource (range_with_len a n))
each P is a zero few = tt
each P is a (suc n) few = (is a (omega (arith, few)), each P is (a + 1) n (omega (arith, few)))

pub fits_fork : (k : ℕ) → k < 32768 → FitsFork (sample_resource k)
fits_fork k few = record { code = omega arith; id = omega (arith, few); name = omega arith; name_bytes = tt; attr = omega arith; bytes = bytes_small k }

pub all_fit : (count : ℕ) → count ≤ 5000 → AllByRecursion FitsFork (sample_list count)
all_fit count few = each FitsFork fits_fork 0 count (omega (arith, few))

pub all_short : (count : ℕ) → count ≤ 5000 → AllByRecursion (λ (r : Resource). length r.bytes ≤ 16777212) (sample_list count)
all_short count few = each (λ r. length r.bytes ≤ 16777212) (λ k less. let small = bytes_few k in omega (arith, small)) 0 count (omega (arith, few))

-- Their ids differ.

other_key : (a k : ℕ) → a < k → (a == k) ≡ false
other_key a k less = grind (arith, nat_tests)

new_key : (front : List ℕ) (k : ℕ) → AllByRecursion (λ a. a < k) front → list_any (λ (b : Resource). same_key b (sample_resource k)) (map sample_resource front) ≡ false
new_key [] k less = refl
new_key (a ∷ front) k less = rw (other_key a k less.0) (new_key front k less.1)

less_too : (front : List ℕ) (a : ℕ) → AllByRecursion (λ x. x < a) front → AllByRecursion (λ x. x < a + 1) front
less_too [] a less = tt
less_too (x ∷ front) a less = (let here : x < a = less.0 in omega (arith, here), less_too front a less.1)

keys_behind : (front : List ℕ) (a n : ℕ) → AllByRecursion (λ x. x < a) front → KeysDiffer (map sample_resource front) (map sample_resource (range_with_len a n))
keys_behind front a zero less = tt
keys_behind front a (suc n) less = (
  new_key front a less,
  subst (λ (before : List Resource). KeysDiffer before (map sample_resource (range_with_len (a + 1) n))) (map-append sample_resource front (a ∷ []))
      (keys_behind (front ++ a ∷ []) (a + 1) n (all_append (λ (x : ℕ). x < a + 1) front (a ∷ []) (less_too front a less) (omega arith, tt))),
)

pub keys_differ : (count : ℕ) → KeysDiffer [] (sample_list count)
keys_differ count = keys_behind [] 0 count tt

-- They are of one type.

no_more : (first : ℕ) (before : List Resource) (ks : List ℕ) → with_front new_kind (sample_resource first ∷ before) (map sample_resource ks) ≡ []
no_more first before [] = refl
no_more first before (k ∷ ks) = no_more first (before ++ sample_resource k ∷ []) ks

kinds_are : (count : ℕ) → 0 < count → kinds_of (sample_list count) ≡ sample_kind.code ∷ []
kinds_are zero some = absurd (omega (arith, some))
kinds_are (suc n) some = ap (λ (l : List ℕ). sample_kind.code ∷ l) (no_more 0 [] (range_with_len 1 n))

group_is : (ks : List ℕ) → group_of (map sample_resource ks) sample_kind.code ≡ map sample_resource ks
group_is [] = refl
group_is (k ∷ ks) = ap (λ (l : List Resource). sample_resource k ∷ l) (group_is ks)

pub grouped_is : (count : ℕ) → 0 < count → grouped (sample_list count) ≡ sample_list count
grouped_is count some =
    ap (λ (kinds : List ℕ). flat_map (group_of (sample_list count)) kinds) (kinds_are count some) ∙ append-nil (group_of (sample_list count) sample_kind.code)
    ∙ group_is (range_with_len 0 count)

-- Their fork passes no limit.

data_few : (ks : List ℕ) → length (data_area (map sample_resource ks)) ≤ 48 * length ks
data_few [] = omega arith
data_few (k ∷ ks) =
    let sum = length-append (stored_data (sample_resource k)) (data_area (map sample_resource ks)) in
    let one = length-append (be 4 (length (sample_bytes k))) (sample_bytes k) in
    omega (arith, sum, one, length-be_4 (length (sample_bytes k)), bytes_few k, data_few ks)

names_none : (ks : List ℕ) → name_list (map sample_resource ks) ≡ []
names_none [] = refl
names_none (k ∷ ks) = names_none ks

within : (number limit long : ℕ) → long ≤ limit → passed number limit long ≡ None
within number limit long few = let small : nat_lt limit long ≡ false = grind (arith, nat_tests) in rw small refl

module _ (count : ℕ) (some : 0 < count) (few : count ≤ 5000) where
  size : length (sample_list count) ≡ count
  size = length-map (range_with_len 0 count) sample_resource ∙ length-range_with_len 0 count

  none_passed : limit_of 1 (sample_list count) ≡ None
  none_passed =
      let long = data_few (range_with_len 0 count) in
      let many = length-range_with_len 0 count in
      let none : length (name_list (sample_list count)) ≡ 0 = ap length (names_none (range_with_len 0 count)) in
      λ i. first_of (
      within 302 16777216 (length (data_area (sample_list count))) (omega (arith, long, many, few)) i
      ∷ within 303 65535 (lists_end 1 (length (sample_list count))) (omega (arith, size, few)) i
      ∷ within 304 65535 (length (name_list (sample_list count))) (omega (arith, none)) i
      ∷ []
      )

  pub no_limit : first_limit (sample_list count) ≡ None
  no_limit = (λ i. limit_of (length (kinds_are count some i)) (grouped_is count some i)) ∙ none_passed

  readable : IsReadable (sample_list count) 0 []
  readable = record {
    keys = keys_differ count;
    codes = subst (AllByRecursion (λ (k : ℕ). k < 2 ^ 32)) (sym (kinds_are count some)) (omega arith, tt);
    ids = subst (AllByRecursion HasShortId) (sym (grouped_is count some)) (each HasShortId (λ k less. omega (arith, less)) 0 count (omega (arith, few)));
    limits = no_limit;
    attributes_fit = omega arith;
    room = omega arith;
  }

  -- what the fork holds: its list, and the zero bytes after the header
  pub admitted_as : admitted (image (sample_list count) 0 []) ≡ Ok (record { list = sample_list count; attributes = 0; reserved = replicate 240 0 })
  admitted_as = image_admitted (sample_list count) 0 [] readable ∙ ap (λ (list : List Resource). Ok (record { list = list; attributes = 0; reserved = replicate 240 0 })) (grouped_is count some)
