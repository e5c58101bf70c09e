-- Bytes of texts, one more at a time.
use Rattle.std.proofs.Common.{◌≡◌, ◌≢◌, ℕ, zero, suc, ◌+◌, ◌-◌, ◌*◌, ◌%◌, ◌<◌, ◌≤◌, ◌==◌, ◌&&◌, Bool, true, false, List, [], ◌∷◌, ◌++◌, length, get_or, map, take, drop, Option, Some, None, refl, sym, ap, ◌∙◌, arith}
use Rattle.std.specs.Prelude.{bytes_eq, if◌then◌else◌, option_and_then, option_map, replicate}
use Rattle.std.proofs.lemmas.Bool.Decides.{nat_tests}
use Rattle.std.proofs.lemmas.List.{append-nil, append_assoc, drop_all, drop_more, drop-drop, length-append, length-replicate, length-take, take_more}
use Rattle.rz_bits.specs.Bits.{front_bytes, number_of}
use Rattle.rz_bits.specs.View.{bytes_at, number_at}
use Rattle.rz_bits.proofs.Windows.{bytes_there, number_there}
use Rattle.rz_types_fields.specs.Stored.{before_zero, stored_text, to_size}
use Rattle.rz_types_fields.specs.declared.field.TextForm.{TextForm}
use Rattle.rz_types_fields.specs.declared.field.TextForm.TheVariants as texts
use Rattle.rz_unlay_texts.specs.Plain.{before_zeros, one_byte_size, same_bytes, trimmed, two_byte_size, up_to_zero}
use Rattle.rz_unlay_texts.specs.Texts.{sized_count, stored_count}

-- The same bytes.

pub same_is : (one other : List ℕ) → same_bytes one other ≡ bytes_eq one other
same_is [] [] = refl
same_is [] (y ∷ ys) = refl
same_is (x ∷ xs) [] = refl
same_is (x ∷ xs) (y ∷ ys) = ap (λ (b : Bool). (x == y) && b) (same_is xs ys)

and_assoc : (a b c : Bool) → (a && (b && c)) ≡ ((a && b) && c)
and_assoc true b c = refl
and_assoc false b c = refl

-- in two parts
pub same_front : (xs ys raw : List ℕ) → same_bytes (xs ++ ys) raw ≡ (same_bytes xs (take (length xs) raw) && same_bytes ys (drop (length xs) raw))
same_front [] ys raw = refl
same_front (x ∷ xs) ys [] = refl
same_front (x ∷ xs) ys (r ∷ raw) =
    ap (λ (b : Bool). (x == r) && b) (same_front xs ys raw) ∙ and_assoc (x == r) (same_bytes xs (take (length xs) raw)) (same_bytes ys (drop (length xs) raw))

module _ (xs ys raw front behind : List ℕ) (count : ℕ) (long : count ≡ length xs) (front_is : front ≡ take count raw) (behind_is : behind ≡ drop count raw) where
  in_front : same_bytes xs front ≡ same_bytes xs (take (length xs) raw)
  in_front = ap (same_bytes xs) (front_is ∙ ap (λ n. take n raw) long)

  pub both_same : (result : Bool) → true ≡ same_bytes xs front → result ≡ same_bytes ys behind → result ≡ same_bytes (xs ++ ys) raw
  both_same result first is =
      is ∙ ap (same_bytes ys) (behind_is ∙ ap (λ n. drop n raw) long)
      ∙ ap (λ (b : Bool). b && same_bytes ys (drop (length xs) raw)) (first ∙ in_front)
      ∙ sym (same_front xs ys raw)

  pub not_both_same : false ≡ same_bytes xs front → false ≡ same_bytes (xs ++ ys) raw
  not_both_same first = ap (λ (b : Bool). b && same_bytes ys (drop (length xs) raw)) (first ∙ in_front) ∙ sym (same_front xs ys raw)

pub none_same : (x : ℕ) (xs raw : List ℕ) → length raw ≡ 0 → false ≡ same_bytes (x ∷ xs) raw
none_same x xs [] is = refl
none_same x xs (r ∷ raw) is = absurd (omega arith)

pub one_same : (x : ℕ) (xs raw : List ℕ) → length raw < 2 → (y : ℕ) → false ≡ same_bytes (x ∷ y ∷ xs) raw
one_same x xs [] few y = refl
one_same x xs (r ∷ []) few y = by (x == r)
  where
    by : (test : Bool) → false ≡ (test && false)
    by true = refl
    by false = refl
one_same x xs (r ∷ s ∷ raw) few y = absurd (omega arith)

pub first_same : (x : ℕ) (xs raw : List ℕ) → 0 < length raw → same_bytes (x ∷ xs) raw ≡ ((x == get_or raw 0 0) && same_bytes xs (drop 1 raw))
first_same x xs [] some = absurd (omega arith)
first_same x xs (r ∷ raw) some = refl

pub two_same : (x y : ℕ) (xs raw : List ℕ) → 2 ≤ length raw
    → same_bytes (x ∷ y ∷ xs) raw ≡ ((x == get_or raw 0 0) && ((y == get_or raw 1 0) && same_bytes xs (drop 2 raw)))
two_same x y xs [] some = absurd (omega arith)
two_same x y xs (r ∷ []) some = absurd (omega arith)
two_same x y xs (r ∷ s ∷ raw) some = refl

-- Bytes are eight bits each.

pub low_same : (bytes : List ℕ) → ((k : ℕ) → get_or bytes k 0 < 256) → map (λ byte. byte % 256) bytes ≡ bytes
low_same [] small = refl
low_same (b ∷ bytes) small =
    let low : b < 256 = small 0 in
    let same : b % 256 ≡ b = omega arith in
    λ i. same i ∷ low_same bytes (λ k. small (suc k)) i

-- Zero bytes.

and_false : (test rest : Bool) → false ≡ rest → false ≡ (test && rest)
and_false true rest is = is
and_false false rest is = refl

pub zeros_length : (count : ℕ) (bytes : List ℕ) → length bytes ≢ count → false ≡ same_bytes (replicate count 0) bytes
zeros_length zero [] other = absurd (other refl)
zeros_length zero (b ∷ bytes) other = refl
zeros_length (suc count) [] other = refl
zeros_length (suc count) (b ∷ bytes) other = and_false (0 == b) (same_bytes (replicate count 0) bytes) (zeros_length count bytes (λ is. other (ap suc is)))

zeros_at : (bytes : List ℕ) (i : ℕ) → i < length bytes
    → same_bytes (replicate (length bytes - i) 0) (drop i bytes) ≡ ((0 == get_or bytes i 0) && same_bytes (replicate (length bytes - (i + 1)) 0) (drop (i + 1) bytes))
zeros_at bytes i less =
    let e : length bytes - i ≡ suc (length bytes - (i + 1)) = omega arith in
    ap (λ n. same_bytes (replicate n 0) (drop i bytes)) e
    ∙ ap (same_bytes (replicate (suc (length bytes - (i + 1))) 0)) (drop_more bytes i 0 less)

pub zeros_more : (bytes : List ℕ) (i byte : ℕ) (test : Bool) → i < length bytes → byte ≡ get_or bytes i 0 → byte ≡ 0
    → same_bytes (replicate (length bytes - i) 0) (drop i bytes) ≡ test → same_bytes (replicate (length bytes - (i + 1)) 0) (drop (i + 1) bytes) ≡ test
zeros_more bytes i byte test less is none so =
    ap (λ b. (0 == b) && same_bytes (replicate (length bytes - (i + 1)) 0) (drop (i + 1) bytes)) (sym none ∙ is) ∙ sym (zeros_at bytes i less) ∙ so

pub zeros_not : (bytes : List ℕ) (i byte : ℕ) (test : Bool) → i < length bytes → byte ≡ get_or bytes i 0 → byte ≢ 0
    → same_bytes (replicate (length bytes - i) 0) (drop i bytes) ≡ test → false ≡ test
zeros_not bytes i byte test less is some so =
    let other : (0 == get_or bytes i 0) ≡ false = grind (arith, nat_tests) in
    ap (λ (b : Bool). b && same_bytes (replicate (length bytes - (i + 1)) 0) (drop (i + 1) bytes)) (sym other) ∙ sym (zeros_at bytes i less) ∙ so

pub zeros_over : (bytes : List ℕ) (i : ℕ) (test : Bool) → length bytes ≤ i → same_bytes (replicate (length bytes - i) 0) (drop i bytes) ≡ test → true ≡ test
zeros_over bytes i test past so =
    let e : length bytes - i ≡ 0 = omega arith in
    sym (ap (λ n. same_bytes (replicate n 0) (drop i bytes)) e ∙ ap (same_bytes []) (drop_all i bytes past)) ∙ so

-- Sizes.

pub length_to_size : (size : Option ℕ) (bytes : List ℕ) → length (to_size size bytes) ≡ sized_count size (length bytes)
length_to_size None bytes = refl
length_to_size (Some size) bytes =
    let a = length-append (take size bytes) (replicate (size - length bytes) 0) in
    let b = length-take size bytes in
    let c = length-replicate {A = ℕ} (size - length bytes) 0 in
    omega (arith, a, b, c)

pub length_stored : (form : TextForm) (size : Option ℕ) (bytes : List ℕ) → length (stored_text form size bytes) ≡ stored_count form size (length bytes)
length_stored texts.Open size bytes = length_to_size size bytes
length_stored texts.Pascal size bytes = let n = length_to_size size bytes in omega (arith, n)
length_stored texts.WordLong size bytes = let n = length_to_size size bytes in omega (arith, n)
length_stored texts.Zero size bytes = let n = length_to_size (before_zero size) bytes in let l = length-append (to_size (before_zero size) bytes) (0 ∷ []) in omega (arith, n, l)

pub one_byte : (bytes : List ℕ) → get_or bytes 0 0 ≡ one_byte_size bytes
one_byte [] = refl
one_byte (b ∷ bytes) = refl

pub no_byte : (bytes : List ℕ) → length bytes ≡ 0 → 0 ≡ one_byte_size bytes
no_byte [] is = refl
no_byte (b ∷ bytes) is = absurd (omega arith)

pub two_bytes_are : (bytes : List ℕ) → 2 ≤ length bytes → get_or bytes 0 0 * 256 + get_or bytes 1 0 ≡ two_byte_size bytes
two_bytes_are [] some = absurd (omega arith)
two_bytes_are (b ∷ []) some = absurd (omega arith)
two_bytes_are (a ∷ b ∷ bytes) some = refl

pub no_two_bytes : (bytes : List ℕ) → length bytes < 2 → 0 ≡ two_byte_size bytes
no_two_bytes [] few = refl
no_two_bytes (b ∷ []) few = refl
no_two_bytes (a ∷ b ∷ bytes) few = absurd (omega arith)

-- Zeros at the end.

trimmed_zero : (xs : List ℕ) → trimmed (xs ++ 0 ∷ []) ≡ trimmed xs
trimmed_zero [] = refl
trimmed_zero (x ∷ xs) = ap (before_zeros x) (trimmed_zero xs)

trimmed_kept : (xs : List ℕ) (b : ℕ) → (b == 0) ≡ false → trimmed (xs ++ b ∷ []) ≡ xs ++ b ∷ []
trimmed_kept [] b some = ap (λ (test : Bool). if test then [] else b ∷ []) some
trimmed_kept (x ∷ []) b some = ap (before_zeros x) (trimmed_kept [] b some)
trimmed_kept (x ∷ y ∷ ys) b some = ap (before_zeros x) (trimmed_kept (y ∷ ys) b some)

take_last : (bytes : List ℕ) (n : ℕ) → 0 < n → n ≤ length bytes → take n bytes ≡ take (n - 1) bytes ++ get_or bytes (n - 1) 0 ∷ []
take_last bytes n some le = ap (λ k. take k bytes) (let e : n ≡ n - 1 + 1 = omega arith in e) ∙ take_more bytes (n - 1) 0 (omega arith)

pub trim_more : (bytes : List ℕ) (n : ℕ) → 0 < n → n ≤ length bytes → get_or bytes (n - 1) 0 ≡ 0 → trimmed (take (n - 1) bytes) ≡ trimmed (take n bytes)
trim_more bytes n some le none =
    sym (ap trimmed (take_last bytes n some le ∙ ap (λ b. take (n - 1) bytes ++ b ∷ []) none) ∙ trimmed_zero (take (n - 1) bytes))

pub trim_other : (bytes : List ℕ) (n : ℕ) → 0 < n → n ≤ length bytes → get_or bytes (n - 1) 0 ≢ 0 → trimmed (take n bytes) ≡ take n bytes
trim_other bytes n some le other =
    let test : (get_or bytes (n - 1) 0 == 0) ≡ false = grind (arith, nat_tests) in
    ap trimmed (take_last bytes n some le) ∙ trimmed_kept (take (n - 1) bytes) (get_or bytes (n - 1) 0) test ∙ sym (take_last bytes n some le)

-- Up to the first zero byte.

abbrev pub with_bytes : List ℕ → Option (List ℕ) → Option (List ℕ)
with_bytes front bytes = option_map (λ more. front ++ more) bytes

pub zero_here : (bytes : List ℕ) (i byte : ℕ) (total : Option (List ℕ)) → i < length bytes → byte ≡ get_or bytes i 0 → byte ≡ 0
    → with_bytes (take i bytes) (up_to_zero (drop i bytes)) ≡ total → Some (take i bytes) ≡ total
zero_here bytes i byte total less is none so =
    ap Some (sym (append-nil (take i bytes)))
    ∙ ap (λ b. with_bytes (take i bytes) (if b == 0 then Some [] else option_map (λ front. b ∷ front) (up_to_zero (drop (i + 1) bytes)))) (sym none ∙ is)
    ∙ ap (λ bs. with_bytes (take i bytes) (up_to_zero bs)) (sym (drop_more bytes i 0 less))
    ∙ so

pub zero_later : (bytes : List ℕ) (i byte : ℕ) (total : Option (List ℕ)) → i < length bytes → byte ≡ get_or bytes i 0 → byte ≢ 0
    → with_bytes (take i bytes) (up_to_zero (drop i bytes)) ≡ total → with_bytes (take (i + 1) bytes) (up_to_zero (drop (i + 1) bytes)) ≡ total
zero_later bytes i byte total less is some so =
    let test : (get_or bytes i 0 == 0) ≡ false = grind (arith, nat_tests) in
    ap (λ bs. with_bytes bs (up_to_zero (drop (i + 1) bytes))) (take_more bytes i 0 less)
    ∙ moved (up_to_zero (drop (i + 1) bytes))
    ∙ ap (λ (b : Bool). with_bytes (take i bytes) (if b then Some [] else option_map (λ front. get_or bytes i 0 ∷ front) (up_to_zero (drop (i + 1) bytes)))) (sym test)
    ∙ ap (λ bs. with_bytes (take i bytes) (up_to_zero bs)) (sym (drop_more bytes i 0 less))
    ∙ so
  where
    moved : (o : Option (List ℕ)) → with_bytes (take i bytes ++ get_or bytes i 0 ∷ []) o ≡ with_bytes (take i bytes) (option_map (λ front. get_or bytes i 0 ∷ front) o)
    moved None = refl
    moved (Some front) = ap Some (append_assoc (take i bytes) (get_or bytes i 0 ∷ []) front)

pub no_zero : (bytes : List ℕ) (i : ℕ) (total : Option (List ℕ)) → length bytes ≤ i → with_bytes (take i bytes) (up_to_zero (drop i bytes)) ≡ total → None ≡ total
no_zero bytes i total past so = sym (ap (λ bs. with_bytes (take i bytes) (up_to_zero bs)) (drop_all i bytes past)) ∙ so

-- The first zero byte among all bits.

abbrev pub zero_count : ℕ → Option (List ℕ) → Option ℕ
zero_count before bytes = option_map (λ front. before + (length front + 1)) bytes

module _ (all : List Bool) (at : ℕ) (total : Option ℕ) where
  pub count_here : (i n byte : ℕ) → 0 < n → at + 8 * i + 8 ≤ length all → Some byte ≡ number_at all (at + 8 * i) 8 → byte ≡ 0
      → zero_count i (up_to_zero (front_bytes n (drop (at + 8 * i) all))) ≡ total → Some (i + 1) ≡ total
  count_here i zero byte some there is none so = absurd (omega arith)
  count_here i (suc n) byte some there is none so =
      let here : byte ≡ number_of (take 8 (drop (at + 8 * i) all)) = same_byte byte _ (is ∙ sym (number_there all (at + 8 * i) 8 _ there refl)) in
      ap (λ b. zero_count i (if b == 0 then Some [] else option_map (λ front. b ∷ front) (up_to_zero (front_bytes n (drop 8 (drop (at + 8 * i) all)))))) (sym none ∙ here) ∙ so
    where
      same_byte : (a b : ℕ) → ◌≡◌ {A = Option ℕ} (Some a) (Some b) → a ≡ b
      same_byte a b same = cc

  pub count_later : (i n byte : ℕ) → 0 < n → at + 8 * i + 8 ≤ length all → Some byte ≡ number_at all (at + 8 * i) 8 → byte ≢ 0
      → zero_count i (up_to_zero (front_bytes n (drop (at + 8 * i) all))) ≡ total
      → zero_count (i + 1) (up_to_zero (front_bytes (n - 1) (drop (at + 8 * (i + 1)) all))) ≡ total
  count_later i zero byte some there is other so = absurd (omega arith)
  count_later i (suc n) byte some there is other so =
      let here : byte ≡ number_of (take 8 (drop (at + 8 * i) all)) = same_byte byte _ (is ∙ sym (number_there all (at + 8 * i) 8 _ there refl)) in
      let e : suc n - 1 ≡ n = omega arith in
      let f : at + 8 * (i + 1) ≡ at + 8 * i + 8 = omega arith in
      let test : (number_of (take 8 (drop (at + 8 * i) all)) == 0) ≡ false = grind (arith, nat_tests) in
      ap (λ k. zero_count (i + 1) (up_to_zero (front_bytes k (drop (at + 8 * (i + 1)) all)))) e
      ∙ ap (λ k. zero_count (i + 1) (up_to_zero (front_bytes n (drop k all)))) f
      ∙ ap (λ bs. zero_count (i + 1) (up_to_zero (front_bytes n bs))) (sym (drop-drop 8 (at + 8 * i) all))
      ∙ moved (number_of (take 8 (drop (at + 8 * i) all))) (up_to_zero (front_bytes n (drop 8 (drop (at + 8 * i) all))))
      ∙ ap (λ (b : Bool). zero_count i (if b then Some [] else option_map (λ front. number_of (take 8 (drop (at + 8 * i) all)) ∷ front) (up_to_zero (front_bytes n (drop 8 (drop (at + 8 * i) all)))))) (sym test)
      ∙ so
    where
      same_byte : (a b : ℕ) → ◌≡◌ {A = Option ℕ} (Some a) (Some b) → a ≡ b
      same_byte a b same = cc

      moved : (b : ℕ) (o : Option (List ℕ)) → zero_count (i + 1) o ≡ zero_count i (option_map (λ front. b ∷ front) o)
      moved b None = refl
      moved b (Some front) = let e : i + 1 + (length front + 1) ≡ i + (suc (length front) + 1) = omega arith in ap Some e

  pub no_count : (i n : ℕ) → n ≡ 0 → zero_count i (up_to_zero (front_bytes n (drop (at + 8 * i) all))) ≡ total → None ≡ total
  no_count i zero none so = so
  no_count i (suc n) none so = absurd (omega arith)

pub first_count : (all : List Bool) (at most : ℕ) → at + 8 * most ≤ length all
    → zero_count 0 (up_to_zero (front_bytes most (drop (at + 8 * 0) all))) ≡ option_and_then (λ bytes. option_map (λ front. length front + 1) (up_to_zero bytes)) (bytes_at all at most)
first_count all at most there =
    let e : at + 8 * 0 ≡ at = omega arith in
    ap (λ k. zero_count 0 (up_to_zero (front_bytes most (drop k all)))) e
    ∙ start (up_to_zero (front_bytes most (drop at all)))
    ∙ ap (option_and_then (λ bytes. option_map (λ front. length front + 1) (up_to_zero bytes))) (bytes_there all at most there)
  where
    start : (o : Option (List ℕ)) → zero_count 0 o ≡ option_map (λ front. length front + 1) o
    start None = refl
    start (Some front) = let e : 0 + (length front + 1) ≡ length front + 1 = omega arith in ap Some e
