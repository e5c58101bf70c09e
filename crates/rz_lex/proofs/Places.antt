-- Bytes before the first that passes a test.
use Rattle.std.proofs.Common.{◌≡◌, ℕ, zero, suc, ◌<◌, ◌≤◌, Bool, true, false, List, [], ◌∷◌, drop, take, length, None, refl, arith}
use Rattle.std.specs.Prelude.{◌==◌, slice_index}
use Rattle.std.specs.List.{AllByRecursion}
use Rattle.std.proofs.lemmas.Bool.{false_from_ne_true}
use Rattle.memchr.specs.Find.{is_byte2}
use Rattle.rz_core.proofs.Tests.{or_false}
use Rattle.rz_lex.specs.Scan.{after_quote}

-- the bytes in front of a place, none of which passes
pub front_fails : (test : ℕ → Bool) (n : ℕ) (bs : List ℕ) → n ≤ length bs → ((k : ℕ) → k < n → test (slice_index bs k) ≡ true → ⊥)
    → AllByRecursion (λ b. test b ≡ false) (take n bs)
front_fails test zero bs within none = tt
front_fails test (suc n) [] within none = tt
front_fails test (suc n) (b ∷ bs) within none = (
  false_from_ne_true (test b) (none 0 (omega arith)),
  front_fails test n bs (omega arith) (λ k below. none (suc k) (omega arith)),
)

-- a quote mark and a backslash further on
pub quote_further : (quote n : ℕ) (bs : List ℕ) → n ≤ length bs → ((k : ℕ) → k < n → is_byte2 quote 92 (slice_index bs k) ≡ true → ⊥) → after_quote quote bs ≡ after_quote quote (drop n bs)
quote_further quote zero bs within none = refl
quote_further quote (suc n) [] within none = refl
quote_further quote (suc n) (b ∷ bs) within none =
    let other = or_false (b == quote) (b == 92) (false_from_ne_true (is_byte2 quote 92 b) (none 0 (omega arith))) in
    rw (other.0, other.1) (quote_further quote n bs (omega arith) (λ k below. none (suc k) (omega arith)))

-- there is no quote mark
pub quote_nowhere : (quote : ℕ) (bs : List ℕ) → ((k : ℕ) → k < length bs → is_byte2 quote 92 (slice_index bs k) ≡ true → ⊥) → after_quote quote bs ≡ None
quote_nowhere quote [] none = refl
quote_nowhere quote (b ∷ bs) none =
    let other = or_false (b == quote) (b == 92) (false_from_ne_true (is_byte2 quote 92 b) (none 0 (omega arith))) in
    rw (other.0, other.1) (quote_nowhere quote bs (λ k below. none (suc k) (omega arith)))
