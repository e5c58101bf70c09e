-- Numbers and bytes at places among the bits of bytes.
use Rattle.std.proofs.Common.{◌≡◌, ℕ, zero, suc, ◌+◌, ◌-◌, ◌*◌, ◌/◌, ◌%◌, ◌^◌, ◌<◌, ◌≤◌, ◌==◌, Bool, true, false, List, [], ◌∷◌, ◌++◌, length, take, drop, get_or, Some, None, refl, sym, ap, subst, ◌∙◌, arith}
use Rattle.std.specs.Prelude.{nat_le, if◌then◌else◌, option_map}
use Rattle.std.proofs.lemmas.Bool.Decides.{nat_tests}
use Rattle.std.proofs.lemmas.List.{append_assoc, length-append, length-take-le, length-drop, take_at, drop_at, take-append-drop, take-append-le, drop-append-le, drop-drop, drop-take, take-take, take_more}
use Rattle.std.proofs.lemmas.Nat.{pow-add, pow_pos, mul-add-lt, one_shl}
use Rattle.std.proofs.Math.Nat.{mul-pos}
use Rattle.std.proofs.Math.Pow.{pow_mono}
use Rattle.std.proofs.Math.Seq.{take-add}
use Rattle.rz_bits.specs.Bits.{bits_of, bytes_of, digit, front_bytes, number_bits, number_of}
use Rattle.rz_bits.specs.View.{bytes_at, number_at}
use Rattle.rz_bits.proofs.Numbers.{length-number_bits, number_bits-add, number_bits-low, number_of-number_bits}
use Rattle.rz_bits.proofs.Bytes.{bits_of-append, length-bits_of}

-- Where bits are there.

pub bits_length : (bytes : List ℕ) → length (bits_of bytes) ≡ 8 * length bytes
bits_length bytes = length-bits_of bytes

pub number_there : (all : List Bool) (at width n : ℕ) → at + width ≤ length all → n ≡ number_of (take width (drop at all)) → Some n ≡ number_at all at width
number_there all at width n there is =
    let test : nat_le (at + width) (length all) ≡ true = grind (arith, nat_tests) in
    ap Some is ∙ ap (λ (b : Bool). option_map number_of (if b then Some (take width (drop at all)) else None)) (sym test)

pub no_number : (all : List Bool) (at width : ℕ) → length all < at + width → None ≡ number_at all at width
no_number all at width over =
    let test : nat_le (at + width) (length all) ≡ false = grind (arith, nat_tests) in
    ap (λ (b : Bool). option_map number_of (if b then Some (take width (drop at all)) else None)) (sym test)

front_take : (n : ℕ) (bits : List Bool) → front_bytes n (take (8 * n) bits) ≡ front_bytes n bits
front_take zero bits = refl
front_take (suc n) bits =
    let e : 8 * suc n ≡ 8 + 8 * n = omega arith in
    let parts : take (8 * suc n) bits ≡ take (8 + 8 * n) bits = ap (λ k. take k bits) e in
    let first : take 8 (take (8 + 8 * n) bits) ≡ take 8 bits = take-take 8 (8 + 8 * n) bits (omega arith) in
    ap (λ bs. number_of (take 8 bs) ∷ front_bytes n (drop 8 bs)) parts
    ∙ ap (λ bs. number_of bs ∷ front_bytes n (drop 8 (take (8 + 8 * n) bits))) first
    ∙ ap (λ bs. number_of (take 8 bits) ∷ bs) (ap (front_bytes n) (drop-take 8 (8 * n) bits) ∙ front_take n (drop 8 bits))

pub bytes_there : (all : List Bool) (at count : ℕ) → at + 8 * count ≤ length all → Some (front_bytes count (drop at all)) ≡ bytes_at all at count
bytes_there all at count there =
    let test : nat_le (at + 8 * count) (length all) ≡ true = grind (arith, nat_tests) in
    let long : length (take (8 * count) (drop at all)) ≡ 8 * count =
    length-take-le (8 * count) (drop at all) (let d = length-drop at all in omega (arith, d, there)) in
    let eighth : length (take (8 * count) (drop at all)) / 8 ≡ count = omega (arith, long) in
    sym (
    ap (λ (b : Bool). option_map bytes_of (if b then Some (take (8 * count) (drop at all)) else None)) test
    ∙ ap Some (ap (λ n. front_bytes n (take (8 * count) (drop at all))) eighth ∙ front_take count (drop at all))
    )

pub no_bytes : (all : List Bool) (at count : ℕ) → length all < at + 8 * count → None ≡ bytes_at all at count
no_bytes all at count over =
    let test : nat_le (at + 8 * count) (length all) ≡ false = grind (arith, nat_tests) in
    ap (λ (b : Bool). option_map bytes_of (if b then Some (take (8 * count) (drop at all)) else None)) (sym test)

-- Whole bytes.

pub drop_bits : (k : ℕ) (xs : List ℕ) → k ≤ length xs → drop (8 * k) (bits_of xs) ≡ bits_of (drop k xs)
drop_bits k xs within =
    ap (λ ys. drop (8 * k) (bits_of ys)) (sym (take-append-drop k xs))
    ∙ ap (drop (8 * k)) (bits_of-append (take k xs) (drop k xs))
    ∙ drop_at (bits_of (take k xs)) (bits_of (drop k xs)) (8 * k) (length-bits_of (take k xs) ∙ ap (λ n. 8 * n) (length-take-le k xs within))

front_whole : (n : ℕ) (xs : List ℕ) → n ≤ length xs → ((k : ℕ) → get_or xs k 0 < 256) → front_bytes n (bits_of xs) ≡ take n xs
front_whole zero xs within small = refl
front_whole (suc n) [] within small = absurd (omega arith)
front_whole (suc n) (x ∷ xs) within small =
    let long = length-number_bits 8 x in
    let first : number_of (take 8 (number_bits 8 x ++ bits_of xs)) ≡ x =
    ap number_of (take_at (number_bits 8 x) (bits_of xs) 8 long) ∙ number_of-number_bits 8 x ∙ (let l : x < 256 = small 0 in omega arith) in
    ap (λ y. y ∷ front_bytes n (drop 8 (number_bits 8 x ++ bits_of xs))) first
    ∙ ap (λ bs. x ∷ front_bytes n bs) (drop_at (number_bits 8 x) (bits_of xs) 8 long)
    ∙ ap (λ bs. x ∷ bs) (front_whole n xs (omega arith) (λ k. small (suc k)))

get_drop : (k j : ℕ) (xs : List ℕ) → get_or (drop k xs) j 0 ≡ get_or xs (k + j) 0
get_drop zero j xs = let e : 0 + j ≡ j = omega arith in ap (λ n. get_or xs n 0) (sym e)
get_drop (suc k) j [] = let e : suc k + j ≡ suc (k + j) = omega arith in nil j ∙ ap (λ n. get_or [] n 0) (sym e)
  where
    nil : (j : ℕ) → get_or {A = ℕ} [] j 0 ≡ 0
    nil zero = refl
    nil (suc j) = refl
get_drop (suc k) j (x ∷ xs) = let e : suc k + j ≡ suc (k + j) = omega arith in get_drop k j xs ∙ ap (λ n. get_or (x ∷ xs) n 0) (sym e)

pub whole : (bytes : List ℕ) (first count : ℕ) → first + count ≤ length bytes → ((k : ℕ) → get_or bytes k 0 < 256)
    → take (first + count - first) (drop first bytes) ≡ front_bytes count (drop (8 * first) (bits_of bytes))
whole bytes first count within small =
    let e : first + count - first ≡ count = omega arith in
    ap (λ n. take n (drop first bytes)) e ∙ whole_front bytes first count within small
  where
    whole_front : (bytes : List ℕ) (first count : ℕ) → first + count ≤ length bytes → ((k : ℕ) → get_or bytes k 0 < 256)
        → take count (drop first bytes) ≡ front_bytes count (drop (8 * first) (bits_of bytes))
    whole_front bytes first count within small =
        let few : (k : ℕ) → get_or (drop first bytes) k 0 < 256 = λ k. subst (λ n. n < 256) (sym (get_drop first k bytes)) (small (first + k)) in
        sym (
        ap (front_bytes count) (drop_bits first bytes (omega arith))
        ∙ front_whole count (drop first bytes) (let d = length-drop first bytes in omega (arith, d, within)) few
        )

-- one byte more of those from any place on
pub shifted_more : (copy : List ℕ) (all : List Bool) (at n byte : ℕ) (total : List ℕ) → 0 < n → byte ≡ number_of (take 8 (drop at all))
    → copy ++ front_bytes n (drop at all) ≡ total → (copy ++ byte ∷ []) ++ front_bytes (n - 1) (drop (at + 8) all) ≡ total
shifted_more copy all at zero byte total some is so = absurd (omega arith)
shifted_more copy all at (suc n) byte total some is so =
    let e : suc n - 1 ≡ n = omega arith in
    append_assoc copy (byte ∷ []) (front_bytes (suc n - 1) (drop (at + 8) all))
    ∙ ap (λ k. copy ++ byte ∷ front_bytes k (drop (at + 8) all)) e
    ∙ ap (λ b. copy ++ b ∷ front_bytes n (drop (at + 8) all)) is
    ∙ ap (λ bs. copy ++ number_of (take 8 (drop at all)) ∷ front_bytes n bs) (sym (drop-drop 8 at all))
    ∙ so

pub shifted_next : (copy next : List ℕ) (all : List Bool) (place count i byte : ℕ) (total : List ℕ) → i < count → byte ≡ number_of (take 8 (drop (place + 8 * i) all))
    → next ≡ copy ++ byte ∷ [] → copy ++ front_bytes (count - i) (drop (place + 8 * i) all) ≡ total
    → next ++ front_bytes (count - (i + 1)) (drop (place + 8 * (i + 1)) all) ≡ total
shifted_next copy next all place count i byte total less is pushed so =
    let e : count - (i + 1) ≡ count - i - 1 = omega arith in
    let f : place + 8 * (i + 1) ≡ place + 8 * i + 8 = omega arith in
    ap (λ n. next ++ front_bytes n (drop (place + 8 * (i + 1)) all)) e
    ∙ ap (λ n. next ++ front_bytes (count - i - 1) (drop n all)) f
    ∙ ap (λ bs. bs ++ front_bytes (count - i - 1) (drop (place + 8 * i + 8) all)) pushed
    ∙ shifted_more copy all (place + 8 * i) (count - i) byte total (omega arith) is so

-- Numbers in some bytes.

-- the bits of the bytes so far, as one number
pub gathered_more : (bytes : List ℕ) (i number byte : ℕ) → i < length bytes → byte ≡ get_or bytes i 0 → byte < 256
    → number_bits (8 * i) number ≡ bits_of (take i bytes) → number_bits (8 * (i + 1)) (number * 256 + byte) ≡ bits_of (take (i + 1) bytes)
gathered_more bytes i number byte less is small so =
    let e : 8 * (i + 1) ≡ 8 * i + 8 = omega arith in
    let low : number_bits 8 (number * 256 + byte) ≡ number_bits 8 byte =
    sym (number_bits-low 8 8 (number * 256 + byte) (omega arith)) ∙ ap (number_bits 8) (let m : (number * 256 + byte) % 2 ^ 8 ≡ byte = omega arith in m) in
    let high : (number * 256 + byte) / 2 ^ 8 ≡ number = omega arith in
    ap (λ w. number_bits w (number * 256 + byte)) e
    ∙ number_bits-add (8 * i) 8 (number * 256 + byte)
    ∙ ap (λ n. number_bits (8 * i) n ++ number_bits 8 (number * 256 + byte)) high
    ∙ ap (λ bs. bs ++ number_bits 8 (number * 256 + byte)) so
    ∙ ap (λ bs. bits_of (take i bytes) ++ bs) (low ∙ ap (number_bits 8) is ∙ one (get_or bytes i 0))
    ∙ sym (bits_of-append (take i bytes) (get_or bytes i 0 ∷ []))
    ∙ ap bits_of (sym (take_more bytes i 0 less))
  where
    one : (b : ℕ) → number_bits 8 b ≡ bits_of (b ∷ [])
    one b = nil (number_bits 8 b)
      where
        nil : (xs : List Bool) → xs ≡ xs ++ []
        nil [] = refl
        nil (x ∷ xs) = ap (λ ys. x ∷ ys) (nil xs)

pub gathered_small : (i number byte : ℕ) → number < 2 ^ (8 * i) → byte < 256 → number * 256 + byte < 2 ^ (8 * (i + 1))
gathered_small i number byte small low =
    let e : 2 ^ (8 * (i + 1)) ≡ 2 ^ (8 * i) * 2 ^ 8 = ap (λ k. 2 ^ k) (let k : 8 * (i + 1) ≡ 8 * i + 8 = omega arith in k) ∙ pow-add 2 (8 * i) 8 in
    let m = mul-add-lt number 256 byte (2 ^ (8 * i)) small low in
    omega (arith, e, m)

-- it fits in 64 bits
pub gathered_fits : (i number : ℕ) → i ≤ 5 → number < 2 ^ (8 * i) → number < 2 ^ 40
gathered_fits i number few small = let le : 8 * i ≤ 40 = omega arith in let p : 2 ^ (8 * i) ≤ 2 ^ 40 = pow_mono {i = 8 * i} {j = 40} le in omega (arith, p, small)

-- bits in the number that some bytes are
pub window : (bytes : List ℕ) (first used width size number : ℕ) → used + width ≤ 8 * size → first + size ≤ length bytes
    → number_bits (8 * size) number ≡ bits_of (take size (drop first bytes))
    → number_of (take width (drop (8 * first + used) (bits_of bytes))) ≡ (number / 2 ^ (8 * size - used - width)) % 2 ^ width
window bytes first used width size number room within so =
    ap (λ bs. number_of (take width bs)) (sym (drop-drop used (8 * first) (bits_of bytes)) ∙ ap (drop used) (drop_bits first bytes (omega arith) ∙ parts))
    ∙ ap (λ bs. number_of (take width bs)) (drop-append-le used (number_bits (8 * size) number) rest (let l = length-number_bits (8 * size) number in omega (arith, l, room)))
    ∙ ap (λ bs. number_of (take width (bs ++ rest))) front
    ∙ ap number_of (take-append-le width (number_bits (width + behind) number) rest (let l = length-number_bits (width + behind) number in omega (arith, l)))
    ∙ ap (λ bs. number_of (take width bs)) (number_bits-add width behind number)
    ∙ ap number_of (take_at (number_bits width (number / 2 ^ behind)) (number_bits behind number) width (length-number_bits width (number / 2 ^ behind)))
    ∙ number_of-number_bits width (number / 2 ^ behind)
  where
    behind : ℕ
    behind = 8 * size - used - width

    rest : List Bool
    rest = bits_of (drop size (drop first bytes))

    parts : bits_of (drop first bytes) ≡ number_bits (8 * size) number ++ rest
    parts =
        ap bits_of (sym (take-append-drop size (drop first bytes)))
        ∙ bits_of-append (take size (drop first bytes)) (drop size (drop first bytes))
        ∙ ap (λ bs. bs ++ rest) (sym so)

    front : drop used (number_bits (8 * size) number) ≡ number_bits (width + behind) number
    front =
        let e : 8 * size ≡ used + (width + behind) = omega arith in
        ap (λ w. drop used (number_bits w number)) e
        ∙ ap (drop used) (number_bits-add used (width + behind) number)
        ∙ drop_at (number_bits used (number / 2 ^ (width + behind))) (number_bits (width + behind) number) used (length-number_bits used (number / 2 ^ (width + behind)))

-- as the code finds it
pub number_is : (bytes : List ℕ) (place width size number : ℕ) → width ≤ 32 → place + width ≤ 8 * length bytes → size ≡ (place % 8 + width + 7) / 8
    → number_bits (8 * length (take (place / 8 + size - place / 8) (drop (place / 8) bytes))) number ≡ bits_of (take (place / 8 + size - place / 8) (drop (place / 8) bytes))
    → (number / 2 ^ (8 * size - place % 8 - width)) % (1 * 2 ^ width % 2 ^ 64) ≡ number_of (take width (drop place (bits_of bytes)))
number_is bytes place width size number narrow there is so =
    let e : place / 8 + size - place / 8 ≡ size = omega arith in
    let within : place / 8 + size ≤ length bytes = omega (arith, is) in
    let long : length (take size (drop (place / 8) bytes)) ≡ size = length-take-le size (drop (place / 8) bytes) (let d = length-drop (place / 8) bytes in omega (arith, d, within)) in
    let same : number_bits (8 * size) number ≡ bits_of (take size (drop (place / 8) bytes)) =
    ap (λ n. number_bits (8 * n) number) (sym long) ∙ subst (λ n. number_bits (8 * length (take n (drop (place / 8) bytes))) number ≡ bits_of (take n (drop (place / 8) bytes))) e so in
    let f : 8 * (place / 8) + place % 8 ≡ place = omega arith in
    ap (λ n. (number / 2 ^ (8 * size - place % 8 - width)) % n) (one_shl width 64 (omega arith))
    ∙ sym (window bytes (place / 8) (place % 8) width size number (omega (arith, is)) within same)
    ∙ ap (λ n. number_of (take width (drop n (bits_of bytes)))) f

-- Zeros.

pub number_of-append : (xs ys : List Bool) → number_of (xs ++ ys) ≡ number_of xs * 2 ^ length ys + number_of ys
number_of-append [] ys = omega arith
number_of-append (x ∷ xs) ys =
    let p = pow-add 2 (length xs) (length ys) in
    let l : 2 ^ length (xs ++ ys) ≡ 2 ^ length xs * 2 ^ length ys = ap (λ n. 2 ^ n) (length-append xs ys) ∙ p in
    ap (λ n. digit x * n + number_of (xs ++ ys)) l
    ∙ ap (λ n. digit x * (2 ^ length xs * 2 ^ length ys) + n) (number_of-append xs ys)
    ∙ shared (digit x) (2 ^ length xs) (2 ^ length ys) (number_of xs) (number_of ys)
  where
    shared : (a b c d e : ℕ) → a * (b * c) + (d * c + e) ≡ (a * b + d) * c + e
    shared a b c d e = omega arith

-- no zeros where the first bits are none
pub zeros_over : (bits : List Bool) (a n : ℕ) → a ≤ n → 0 < number_of (take a bits) → false ≡ (number_of (take n bits) == 0)
zeros_over bits a n le some =
    let e : n ≡ a + (n - a) = omega arith in
    let rest : List Bool = take (n - a) (drop a bits) in
    let whole : number_of (take n bits) ≡ number_of (take a bits) * 2 ^ length rest + number_of rest =
    ap (λ k. number_of (take k bits)) e ∙ ap number_of (take-add a (n - a) bits) ∙ number_of-append (take a bits) rest in
    let positive : 0 < number_of (take a bits) * 2 ^ length rest = mul-pos some (pow_pos (length rest)) in
    let more : 0 < number_of (take n bits) = omega (arith, whole, positive) in
    grind (arith, nat_tests, more)

-- after zeros the rest decides
pub zeros_more : (bits : List Bool) (a n : ℕ) (test : Bool) → a ≤ n → number_of (take a bits) ≡ 0 → (number_of (take n bits) == 0) ≡ test
    → (number_of (take (n - a) (drop a bits)) == 0) ≡ test
zeros_more bits a n test le none is =
    let e : n ≡ a + (n - a) = omega arith in
    let rest : List Bool = take (n - a) (drop a bits) in
    let whole : number_of (take n bits) ≡ number_of rest =
    ap (λ k. number_of (take k bits)) e ∙ ap number_of (take-add a (n - a) bits) ∙ number_of-append (take a bits) rest
    ∙ ap (λ m. m * 2 ^ length rest + number_of rest) none ∙ (let z : 0 * 2 ^ length rest + number_of rest ≡ number_of rest = omega arith in z) in
    ap (λ m. m == 0) (sym whole) ∙ is

pub zeros_next : (all : List Bool) (place count i : ℕ) (test : Bool) → 32 * (i + 1) ≤ count → number_of (take 32 (drop (place + 32 * i) all)) ≡ 0
    → (number_of (take (count - 32 * i) (drop (place + 32 * i) all)) == 0) ≡ test
    → (number_of (take (count - 32 * (i + 1)) (drop (place + 32 * (i + 1)) all)) == 0) ≡ test
zeros_next all place count i test room none is =
    let e : count - 32 * (i + 1) ≡ count - 32 * i - 32 = omega arith in
    let f : place + 32 * (i + 1) ≡ place + 32 * i + 32 = omega arith in
    ap (λ n. number_of (take n (drop (place + 32 * (i + 1)) all)) == 0) e
    ∙ ap (λ n. number_of (take (count - 32 * i - 32) (drop n all)) == 0) f
    ∙ ap (λ bs. number_of (take (count - 32 * i - 32) bs) == 0) (sym (drop-drop 32 (place + 32 * i) all))
    ∙ zeros_more (drop (place + 32 * i) all) 32 (count - 32 * i) test (omega arith) none is

pub bytes_found : (all : List Bool) (at count : ℕ) (copy : List ℕ) → at + 8 * count ≤ length all → copy ≡ front_bytes count (drop at all) → Some copy ≡ bytes_at all at count
bytes_found all at count copy there is = ap Some is ∙ bytes_there all at count there
