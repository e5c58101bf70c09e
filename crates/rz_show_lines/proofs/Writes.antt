-- Several writes to a line are one: with `a ≡ cut (old ++ x)` and `b ≡ cut (a ++ y)`, `b ≡ cut (old ++ (x ++ y))`
-- by `grind writes`, or with no answer under `#[tactic(auto, using(crate::proofs::Writes::writes))]`, as in
-- `head_front`.
use Rattle.std.proofs.Common.{◌≡◌, ℕ, zero, suc, ◌+◌, ◌-◌, ◌/◌, ◌%◌, ◌^◌, ◌<◌, ◌≤◌, ℤ, pos, negsuc, List, [], ◌∷◌, ◌++◌, length, take, drop, get_or, add-one, drop-cons, refl, sym, ap, ◌∙◌, arith, append_assoc, length-append}
use Rattle.std.specs.Fmt.{signed_decimal}
use Rattle.std.specs.Int.{byte_at, bytes_high_first}
use Rattle.std.specs.Prelude.{min}
use Rattle.std.proofs.lemmas.Bool.Decides.{nat_tests}
use Rattle.std.proofs.lemmas.List.{append-nil, take-append-le, take_all, take_min}
use Rattle.std.proofs.Math.Nat.{div-div-eq-div-mul, pow-succ'}
use Rattle.rz_core.specs.Decimal.{decimal_of}
use Rattle.rz_core.specs.Numbers.{be}
use Rattle.rz_core.specs.Quoted.{hex_digit}
use Rattle.rz_lex.specs.Spelled.{digits_of}
use Rattle.rz_show_lines.specs.Cut.{cut}
use Rattle.rz_show_lines.specs.Print.{signed_written}
use Rattle.rz_show_lines.specs.Written.{line_text, written_text, Written}

-- What fits on a line.

front_taken : (n : ℕ) (xs ys : List ℕ) → take n (take n xs ++ ys) ≡ take n (xs ++ ys)
front_taken zero xs ys = refl
front_taken (suc n) [] ys = refl
front_taken (suc n) (x ∷ xs) ys = ap (λ (r : List ℕ). x ∷ r) (front_taken n xs ys)

part_taken : (n : ℕ) (xs ys : List ℕ) (room : ℕ) → room + length xs ≡ n → take n (xs ++ ys) ≡ xs ++ take (min room (length ys)) ys
part_taken n [] ys room is = let e : n ≡ room = omega (arith, is) in rw e (sym (take_min room ys))
part_taken zero (x ∷ xs) ys room is = absurd (omega (arith, is))
part_taken (suc n) (x ∷ xs) ys room is = ap (λ (r : List ℕ). x ∷ r) (part_taken n xs ys room (omega (arith, is)))

pub cut_part : (xs ys : List ℕ) (room : ℕ) → room + length xs ≡ 512 → cut (xs ++ ys) ≡ xs ++ take (min room (length ys)) ys
unfolding cut
cut_part xs ys room is = part_taken 512 xs ys room is

-- nothing is cut off a short line
pub cut_short : (xs : List ℕ) → length xs ≤ 512 → cut xs ≡ xs
unfolding cut
cut_short xs fits = take_all 512 xs fits

pub cut_full : (xs ys : List ℕ) → length xs ≡ 512 → cut (xs ++ ys) ≡ xs
unfolding cut
cut_full xs ys full = take-append-le 512 xs ys (omega (arith, full)) ∙ take_all 512 xs (omega (arith, full))

-- a line with room, and a full one
pub ruleset room = (cut_short, cut_full, cut_part, length-append, nat_tests)

-- Several writes.

-- what was cut off stays off
pub cut_again : (xs ys : List ℕ) → cut (cut xs ++ ys) ≡ cut (xs ++ ys)
unfolding cut
cut_again xs ys = front_taken 512 xs ys

-- one write of those that are left
pub go_on : (a b x rest whole : List ℕ) → b ≡ cut (a ++ x) → cut (a ++ (x ++ rest)) ≡ whole → cut (b ++ rest) ≡ whole
go_on a b x rest whole put so_far = ap (λ (r : List ℕ). cut (r ++ rest)) put ∙ cut_again (a ++ x) rest ∙ ap cut (append_assoc a x rest) ∙ so_far

pub next_is : (xs : List ℕ) (i : ℕ) → i < length xs → drop i xs ≡ get_or xs i 0 ∷ drop (i + 1) xs
next_is xs i within = rw (add-one, drop-cons xs i 0 within) refl

-- the text of a line in parts
pub text_both : (xs ys : List Written) → line_text (xs ++ ys) ≡ line_text xs ++ line_text ys
text_both [] ys = refl
text_both (x ∷ xs) ys = ap (λ (r : List ℕ). written_text x ++ r) (text_both xs ys) ∙ sym (append_assoc (written_text x) (line_text xs) (line_text ys))

pub ruleset writes = (cut_again, append_assoc, append-nil, text_both)

-- Digits.

pub signed_is : (number : ℤ) → line_text (signed_written number) ≡ signed_decimal number
unfolding decimal_of
signed_is (pos number) = append-nil (decimal_of number)
signed_is (negsuc number) = ap (λ (r : List ℕ). 45 ∷ r) (append-nil (decimal_of (suc number)))

-- the last byte of a number that is written in bytes
byte_up : (k n : ℕ) → byte_at (suc k) n ≡ byte_at k (n / 256)
byte_up zero n = refl
byte_up (suc k) n = ap (λ (x : ℕ). n / x % 256) (pow-succ' 256 (suc k)) ∙ ap (λ (x : ℕ). x % 256) (sym (div-div-eq-div-mul n 256 (256 ^ suc k)))

last_apart : (k n : ℕ) → bytes_high_first (suc k) n ≡ bytes_high_first k (n / 256) ++ (n % 256) ∷ []
last_apart zero n = refl
last_apart (suc k) n = (λ i. byte_up k n i ∷ last_apart k n i)

pub be_none : (count n : ℕ) → count ≡ 0 → be count n ≡ []
unfolding be
be_none count n none = rw none refl

pub be_last : (count n : ℕ) → 0 < count → be count n ≡ be (count - 1) (n / 256) ++ (n % 256) ∷ []
unfolding be
be_last zero n some = absurd (omega (arith, some))
be_last (suc k) n some = let one : suc k - 1 ≡ k = omega arith in rw one (last_apart k n)

pub digits_more : (base count n : ℕ) → 0 < count → digits_of base count n ≡ digits_of base (count - 1) (n / base) ++ hex_digit (n % base) ∷ []
digits_more base zero n some = absurd (omega (arith, some))
digits_more base (suc k) n some = let one : suc k - 1 ≡ k = omega arith in rw one refl
