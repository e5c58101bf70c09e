-- What the scanners pass over is the longest front that is a lexeme.
use Rattle.std.proofs.Common.{◌≡◌, ◌≢◌, ℕ, Bool, true, false, List, [], ◌∷◌, ◌++◌, Option, Some, None, refl, sym, ap, ◌∙◌, append_assoc, subst, length, ◌-◌, take, arith, length-append}
use Rattle.std.proofs.lemmas.List.{append_cancel_right}
use Rattle.std.proofs.Math.Seq.{take-append_seam}
use Rattle.std.specs.Prelude.{◌==◌}
use Rattle.std.specs.Option.{is_some}
use Rattle.rz_core.proofs.Tests.{by_test}
use Rattle.rz_lex.specs.Classes.{is_letter, is_hex_digit, is_word_byte, is_quote}
use Rattle.rz_lex.specs.Sign.{sign_of_one, sign_of_two, is_sign}
use Rattle.rz_lex.specs.Extent.{are_word_bytes, closes, closes_behind, is_empty, ends_dollar_word, ends_dollar, is_lexeme, Longest, NoFront}
use Rattle.rz_lex.specs.Scan.{after_run, after_quote, after_taken, after_two_dollars, after_dollar, after_one, after_sign, after_lexeme}

-- the answer of a scanner: no front passes the test, or the longest that does ends before what follows
abbrev pub Ends : (List ℕ → Bool) → List ℕ → Option (List ℕ) → Type 0
Ends test rest None = NoFront test rest
Ends test rest (Some after) = (front : List ℕ) × Longest test rest front after

-- a byte in front, after which the test goes on as another

further : (next test : List ℕ → Bool) (b : ℕ) (bs after : List ℕ) → ((xs : List ℕ) → test (b ∷ xs) ≡ next xs) → Ends next bs (Some after) → Ends test (b ∷ bs) (Some after)
further next test b bs after same ends = (
  b ∷ ends.0,
  record {
    whole = ap (λ (xs : List ℕ). b ∷ xs) ends.1.whole;
    passes = same ends.0 ∙ ends.1.passes;
    longest = λ more left is some. same (ends.0 ++ more) ∙ ends.1.longest more left is some;
  },
)

onward : (next test : List ℕ → Bool) (b : ℕ) (bs : List ℕ) (end : Option (List ℕ)) → test [] ≡ false → ((xs : List ℕ) → test (b ∷ xs) ≡ next xs) → Ends next bs end → Ends test (b ∷ bs) end
onward next test b bs (Some after) empty same ends = further next test b bs after same ends
onward next test b bs None empty same ends = none
  where
    none : (front left : List ℕ) → b ∷ bs ≡ front ++ left → test front ≡ false
    none [] left is = empty
    none (c ∷ front) left is = let h : b ≡ c = cc in rw (sym h) (same front ∙ ends front left cc)

-- the test passes here, and with no more
stops : (test : List ℕ → Bool) (after : List ℕ) → test [] ≡ true → ((c : ℕ) (more left : List ℕ) → after ≡ c ∷ (more ++ left) → test (c ∷ more) ≡ false) → Ends test after (Some after)
stops test after passes others = ([], record { whole = refl; passes = passes; longest = longer })
  where
    longer : (more left : List ℕ) → after ≡ more ++ left → more ≢ [] → test more ≡ false
    longer [] left is some = absurd (some refl)
    longer (c ∷ more) left is some = others c more left is

-- nothing is left, and the test fails
runs_out : (test : List ℕ → Bool) → test [] ≡ false → Ends test [] None
runs_out test empty [] left is = empty
runs_out test empty (c ∷ front) left is = absurd cc

-- with this byte nothing passes
dies : (test : List ℕ → Bool) (b : ℕ) (bs : List ℕ) → test [] ≡ false → ((xs : List ℕ) → test (b ∷ xs) ≡ false) → Ends test (b ∷ bs) None
dies test b bs empty others [] left is = empty
dies test b bs empty others (c ∷ front) left is = let h : b ≡ c = cc in rw (sym h) (others front)

ends_run : (bs : List ℕ) → Ends are_word_bytes bs (Some (after_run bs))
ends_run [] = stops are_word_bytes [] refl (λ c more left is. absurd cc)
ends_run (b ∷ bs) = by_test (Ends are_word_bytes (b ∷ bs) (Some (after_run (b ∷ bs)))) (is_word_byte b)
    (λ h. rw h (further are_word_bytes are_word_bytes b bs (after_run bs) (λ xs. rw h refl) (ends_run bs)))
    (λ h. rw h (stops are_word_bytes (b ∷ bs) refl (λ c more left is. let k : b ≡ c = cc in rw (sym k, h) refl)))

ends_mark : (quote b : ℕ) (bs : List ℕ) → b == quote ≡ true → Ends (closes quote) (b ∷ bs) (Some bs)
ends_mark quote b bs h = further is_empty (closes quote) b bs bs (λ xs. rw h refl) (stops is_empty bs refl (λ c more left is. refl))

mutual
  ends_quote : (quote : ℕ) (bs : List ℕ) → Ends (closes quote) bs (after_quote quote bs)
  ends_quote quote [] = runs_out (closes quote) refl
  ends_quote quote (b ∷ bs) = by_test (Ends (closes quote) (b ∷ bs) (after_quote quote (b ∷ bs))) (b == quote)
      (λ h. rw h (ends_mark quote b bs h))
      (λ h. by_test (Ends (closes quote) (b ∷ bs) (after_quote quote (b ∷ bs))) (b == 92)
      (λ k. rw (h, k) (onward (closes_behind quote) (closes quote) b bs (after_taken quote bs) refl (λ xs. rw (h, k) refl) (ends_taken quote bs)))
      (λ k. rw (h, k) (onward (closes quote) (closes quote) b bs (after_quote quote bs) refl (λ xs. rw (h, k) refl) (ends_quote quote bs))))

  ends_taken : (quote : ℕ) (bs : List ℕ) → Ends (closes_behind quote) bs (after_taken quote bs)
  ends_taken quote [] = runs_out (closes_behind quote) refl
  ends_taken quote (b ∷ bs) = onward (closes quote) (closes_behind quote) b bs (after_quote quote bs) refl (λ xs. refl) (ends_quote quote bs)

ends_two_dollars : (bs : List ℕ) → Ends ends_dollar_word bs (after_two_dollars bs)
ends_two_dollars [] = runs_out ends_dollar_word refl
ends_two_dollars (b ∷ bs) = by_test (Ends ends_dollar_word (b ∷ bs) (after_two_dollars (b ∷ bs))) (is_letter b)
    (λ h. rw h (further are_word_bytes ends_dollar_word b bs (after_run bs) (λ xs. rw h refl) (ends_run bs)))
    (λ h. rw h (dies ends_dollar_word b bs refl (λ xs. rw h refl)))

ends_one_dollar : (bs : List ℕ) → Ends ends_dollar bs (after_dollar bs)
ends_one_dollar [] = runs_out ends_dollar refl
ends_one_dollar (b ∷ bs) = by_test (Ends ends_dollar (b ∷ bs) (after_dollar (b ∷ bs))) (is_hex_digit b)
    (λ h. rw h (further are_word_bytes ends_dollar b bs (after_run bs) (λ xs. rw h refl) (ends_run bs)))
    (λ h. by_test (Ends ends_dollar (b ∷ bs) (after_dollar (b ∷ bs))) (b == 34)
    (λ k. rw (h, k) (onward (closes 34) ends_dollar b bs (after_quote 34 bs) refl (λ xs. rw (h, k) refl) (ends_quote 34 bs)))
    (λ k. by_test (Ends ends_dollar (b ∷ bs) (after_dollar (b ∷ bs))) (b == 36)
    (λ l. rw (h, k, l) (onward ends_dollar_word ends_dollar b bs (after_two_dollars bs) refl (λ xs. rw (h, k, l) refl) (ends_two_dollars bs)))
    (λ l. rw (h, k, l) (dies ends_dollar b bs refl (λ xs. rw (h, k, l) refl)))))

-- two tests that agree wherever this byte stands first
alike : (next test : List ℕ → Bool) (b : ℕ) (bs : List ℕ) (end : Option (List ℕ)) → test [] ≡ next [] → ((xs : List ℕ) → test (b ∷ xs) ≡ next (b ∷ xs)) → Ends next (b ∷ bs) end → Ends test (b ∷ bs) end
alike next test b bs end empty same ends = turned end ends
  where
    agree : (front left : List ℕ) → b ∷ bs ≡ front ++ left → test front ≡ next front
    agree [] left is = empty
    agree (c ∷ front) left is = let h : b ≡ c = cc in rw (sym h) (same front)

    turned : (end : Option (List ℕ)) → Ends next (b ∷ bs) end → Ends test (b ∷ bs) end
    turned None ends = λ front left is. agree front left is ∙ ends front left is
    turned (Some after) ends = (
      ends.0,
      record {
        whole = ends.1.whole;
        passes = agree ends.0 after ends.1.whole ∙ ends.1.passes;
        longest = λ more left is some. agree (ends.0 ++ more) left (ends.1.whole ∙ ap (λ (ys : List ℕ). ends.0 ++ ys) is ∙ sym (append_assoc ends.0 more left)) ∙ ends.1.longest more left is some;
      },
    )

-- signs, with none, one and two of their bytes passed

abbrev signs_from : ℕ → List ℕ → Bool
signs_from a bs = is_sign (a ∷ bs)

abbrev signs_behind : ℕ → ℕ → List ℕ → Bool
signs_behind a b bs = is_sign (a ∷ b ∷ bs)

not_two : (a b : ℕ) → is_some (sign_of_two a b) ≡ false → (more : List ℕ) → signs_from a (b ∷ more) ≡ false
not_two a b h [] = h
not_two a b h (c ∷ more) = refl

ends_sign : (a : ℕ) (bs : List ℕ) → Ends is_sign (a ∷ bs) (after_sign (a ∷ bs))
ends_sign a [] = by_test (Ends is_sign (a ∷ []) (after_one a [])) (is_some (sign_of_one a))
    (λ h. rw h (further (signs_from a) is_sign a [] [] (λ xs. refl) (stops (signs_from a) [] h (λ c more left is. absurd cc))))
    (λ h. rw h (onward (signs_from a) is_sign a [] None refl (λ xs. refl) (runs_out (signs_from a) h)))
ends_sign a (b ∷ bs) = by_test (Ends is_sign (a ∷ b ∷ bs) (after_sign (a ∷ b ∷ bs))) (is_some (sign_of_two a b))
    (λ h. rw h (further (signs_from a) is_sign a (b ∷ bs) bs (λ xs. refl) (further (signs_behind a b) (signs_from a) b bs bs (λ xs. refl) (stops (signs_behind a b) bs h (λ c more left is. refl)))))
    (λ h. by_test (Ends is_sign (a ∷ b ∷ bs) (after_sign (a ∷ b ∷ bs))) (is_some (sign_of_one a))
    (λ k. rw (h, k) (further (signs_from a) is_sign a (b ∷ bs) (b ∷ bs) (λ xs. refl) (stops (signs_from a) (b ∷ bs) k (λ c more left is. let t : b ≡ c = cc in subst (λ x. signs_from a (x ∷ more) ≡ false) t (not_two a b h more)))))
    (λ k. rw (h, k) (onward (signs_from a) is_sign a (b ∷ bs) None refl (λ xs. refl) (dies (signs_from a) b bs k (not_two a b h)))))

pub ends_lexeme : (rest : List ℕ) → Ends is_lexeme rest (after_lexeme rest)
ends_lexeme [] = runs_out is_lexeme refl
ends_lexeme (b ∷ bs) = by_test (Ends is_lexeme (b ∷ bs) (after_lexeme (b ∷ bs))) (is_word_byte b)
    (λ h. rw h (further are_word_bytes is_lexeme b bs (after_run bs) (λ xs. rw h refl) (ends_run bs)))
    (λ h. by_test (Ends is_lexeme (b ∷ bs) (after_lexeme (b ∷ bs))) (is_quote b)
    (λ k. rw (h, k) (onward (closes b) is_lexeme b bs (after_quote b bs) refl (λ xs. rw (h, k) refl) (ends_quote b bs)))
    (λ k. by_test (Ends is_lexeme (b ∷ bs) (after_lexeme (b ∷ bs))) (b == 36)
    (λ l. rw (h, k, l) (onward ends_dollar is_lexeme b bs (after_dollar bs) refl (λ xs. rw (h, k, l) refl) (ends_one_dollar bs)))
    (λ l. rw (h, k, l) (alike is_sign is_lexeme b bs (after_sign (b ∷ bs)) refl (λ xs. rw (h, k, l) refl) (ends_sign b bs)))))

-- the front of a cut is as long as what is missing after it
pub front_is : (rest front after : List ℕ) → rest ≡ front ++ after → take (length rest - length after) rest ≡ front
front_is rest front after is =
    let size : length rest - length after ≡ length front = omega (arith, ap length is, length-append front after) in
    rw (size, is) (take-append_seam front after)

-- a front that the scanners pass over is the longest lexeme
pub longest_read : (rest lexeme after : List ℕ) → rest ≡ lexeme ++ after → after_lexeme rest ≡ Some after → Longest is_lexeme rest lexeme after
longest_read rest lexeme after is read =
    let ends = subst (Ends is_lexeme rest) read (ends_lexeme rest) in
    subst (λ (x : List ℕ). Longest is_lexeme rest x after) (append_cancel_right ends.0 lexeme after (sym ends.1.whole ∙ is)) ends.1
