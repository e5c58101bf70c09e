-- Lines in which neither a slash nor a backslash stands, taken whole.
use Rattle.std.proofs.Common.{◌≡◌, ◌≢◌, ℕ, zero, suc, ◌+◌, ◌<◌, ◌⊎◌, inl, inr, Bool, true, false, List, [], ◌∷◌, ◌++◌, length, take, drop, Some, refl, sym, ap, subst, ◌∙◌, append_assoc, arith}
use Rattle.std.specs.Prelude.{◌==◌, ◌||◌, slice_index}
use Rattle.std.specs.List.{AllByRecursion}
use Rattle.std.proofs.lemmas.Bool.{eqb-true, ne_eqb}
use Rattle.std.proofs.lemmas.List.{drop_all, map-append, take_all, take-append-drop}
use Rattle.std.proofs.lemmas.List.Concat.{flat_map-cons}
use Rattle.memchr.specs.Find.{is_byte, is_byte3}
use Rattle.rz_core.proofs.Tests.{by_test, or_false}
use Rattle.rz_lex.specs.declared.joined.Placed.{Placed}
use Rattle.rz_lex.specs.Classes.{is_quote}
use Rattle.rz_lex.specs.Cover.{after_part, after_quote, bytes_of, text_of}
use Rattle.rz_lex.specs.Joined.{joined}
use Rattle.rz_lex.specs.Runs.{ends_here, ends_line, is_unbroken, HasRun, TakesParts}
use Rattle.rz_lex.proofs.Places.{front_fails}
use Rattle.rz_lex.proofs.RunsAhead.{has_run, unbroken_stays}

-- The bytes before the end of a line.

abbrev Free : List ℕ → Type 0
Free bytes = AllByRecursion (λ b. is_byte3 10 13 92 b ≡ false) bytes

abbrev Slashless : List ℕ → Type 0
Slashless bytes = AllByRecursion (λ b. is_byte 47 b ≡ false) bytes

all_unbroken : (bytes : List ℕ) → Free bytes → Slashless bytes → AllByRecursion (λ b. is_unbroken 47 b ≡ true) bytes
all_unbroken [] free slashless = tt
all_unbroken (b ∷ bytes) free slashless =
    let last = or_false (b == 10 || b == 13) (b == 92) free.0 in
    let ends = or_false (b == 10) (b == 13) last.0 in
    (rw (slashless.0, last.1, ends.0, ends.1) refl, all_unbroken bytes free.1 slashless.1)

line_ahead : (line size : ℕ) (bytes : List ℕ) → Free (take size bytes) → Slashless (take size bytes)
    → HasRun (is_unbroken 47) (joined line bytes) (take size bytes) (joined line (drop size bytes))
line_ahead line size bytes free slashless =
    subst (λ (whole : List ℕ). HasRun (is_unbroken 47) (joined line whole) (take size bytes) (joined line (drop size bytes)))
    (take-append-drop size bytes)
    (has_run (is_unbroken 47) (λ b is. (unbroken_stays 47 b is).1) line (take size bytes) (drop size bytes) (all_unbroken (take size bytes) free slashless))

-- The end of a line.

only_first : (a b : Bool) → (a || b) ≡ true → b ≡ false → a ≡ true
only_first true b is none = refl
only_first false b is none = sym none ∙ is

-- the first of these bytes that isn't a backslash ends a line
pub ends_at : (n : ℕ) (bytes : List ℕ) → n < length bytes → is_byte3 10 13 92 (slice_index bytes n) ≡ true → slice_index bytes n ≢ 92 → ends_line (drop n bytes) ≡ true
ends_at zero [] less passes other = absurd (omega arith)
ends_at zero (b ∷ bytes) less passes other = only_first (b == 10 || b == 13) (b == 92) passes (ne_eqb b 92 other)
ends_at (suc n) [] less passes other = absurd (omega arith)
ends_at (suc n) (b ∷ bytes) less passes other = ends_at n bytes (omega arith) passes other

pub ends_in_all : (bytes : List ℕ) → ends_line (drop (length bytes) bytes) ≡ true
ends_in_all bytes = ap ends_line (drop_all (length bytes) bytes (omega arith))

return_ahead : (line : ℕ) (bytes : List ℕ) → ends_here (joined line (13 ∷ bytes)) ≡ true
return_ahead line [] = refl
return_ahead line (b ∷ bytes) = by_test (ends_here (joined line (13 ∷ b ∷ bytes)) ≡ true) (b == 10)
    (λ h. rw (eqb-true b 10 h) refl)
    (λ h. rw h refl)

end_ahead : (line : ℕ) (bytes : List ℕ) → ends_line bytes ≡ true → ends_here (joined line bytes) ≡ true
end_ahead line [] ends = refl
end_ahead line (b ∷ bytes) ends = by_test (ends_here (joined line (b ∷ bytes)) ≡ true) (b == 10)
    (λ h. rw (eqb-true b 10 h) refl)
    (λ h. rw (eqb-true b 13 (rw h at ends)) (return_ahead line bytes))

-- a line that is split from what follows it
module _ (line size behind : ℕ) (bytes run rest : List ℕ) (front : run ≡ take size bytes) (back : rest ≡ drop size bytes) (same : behind ≡ line) where
  pub bare_run : AllByRecursion (λ b. is_byte3 10 13 92 b ≡ false) (take size bytes) → ((k : ℕ) → k < length run → is_byte 47 (slice_index run k) ≡ true → ⊥)
      → HasRun (is_unbroken 47) (joined line bytes) run (joined behind rest)
  bare_run free none =
      let all : Slashless (take (length run) run) = front_fails (is_byte 47) (length run) run (omega arith) none in
      let slashless : Slashless (take size bytes) = subst Slashless (take_all (length run) run (omega arith) ∙ front) all in
      rw (front, back, same) (line_ahead line size bytes free slashless)

  pub bare_end : ends_line (drop size bytes) ≡ true → ends_here (joined behind rest) ≡ true
  bare_end ends = rw (back, same) (end_ahead line (drop size bytes) ends)

-- The parts of such a line.

abbrev Unbroken : List Placed → Type 0
Unbroken front = AllByRecursion (λ placed. is_unbroken 47 placed.byte ≡ true) front

abbrev Covered : List Placed → List Placed → Type 0
Covered front rest = TakesParts (front ++ rest) rest [] (bytes_of front)

-- what is left of a line after a quoted part whose first mark is passed
record Quoted (quote : ℕ) (front rest : List Placed) : Type 0 where
  inner : List Placed
  left : List Placed
  split : front ≡ inner ++ left
  after : after_quote quote (front ++ rest) ≡ left ++ rest
  more : Covered left rest

pub none_taken : (text : List Placed) (new : List ℕ) → new ≡ [] → TakesParts text text [] new
none_taken text new is = record { parts = []; taken = refl; inside = tt; left = is }

quote_at_end : (quote : ℕ) (rest : List Placed) → ends_here rest ≡ true → after_quote quote rest ≡ rest
quote_at_end quote [] ends = refl
quote_at_end quote (a ∷ rest) ends = rw ends refl

-- one part more in front
part_more : (a : Placed) (inner left rest : List Placed) → is_unbroken 47 a.byte ≡ true → after_part (a ∷ ((inner ++ left) ++ rest)) ≡ Some (left ++ rest) → Covered left rest
    → Covered (a ∷ (inner ++ left)) rest
part_more a inner left rest is after more =
    let stays = unbroken_stays 47 a.byte is in
    let text : text_of (a ∷ inner) ≡ bytes_of (a ∷ inner) = rw stays.0 refl in
    record {
      parts = (a ∷ inner) ∷ more.parts;
      taken = (left ++ rest, ap (λ (x : List Placed). a ∷ x) (append_assoc inner left rest), after, more.taken);
      inside = ((stays.1.1, λ none. absurd cc), more.inside);
      left =
          ap (λ (bs : List ℕ). a.byte ∷ bs) (map-append (λ (p : Placed). p.byte) inner left)
          ∙ (λ i. sym text i ++ more.left i)
          ∙ sym (flat_map-cons text_of (a ∷ inner) more.parts);
    }

mutual
  all_covered : (front rest : List Placed) → Unbroken front → ends_here rest ≡ true → Covered front rest
  all_covered [] rest all ends = none_taken rest [] refl
  all_covered (a ∷ front) rest all ends =
      let stays = unbroken_stays 47 a.byte all.0 in
      by_test (Covered (a ∷ front) rest) (is_quote a.byte)
      (λ quote.
      let q = after_mark a.byte front rest all.1 ends in
      let read : after_quote a.byte ((q.inner ++ q.left) ++ rest) ≡ q.left ++ rest = ap (λ (x : List Placed). after_quote a.byte (x ++ rest)) (sym q.split) ∙ q.after in
      subst (λ (x : List Placed). Covered (a ∷ x) rest) (sym q.split)
      (part_more a q.inner q.left rest all.0 (rw (stays.0, quote) (ap (λ (x : List Placed). Some x) read)) q.more))
      (λ bare. part_more a [] front rest all.0 (rw (stays.0, bare) refl) (all_covered front rest all.1 ends))

  after_mark : (quote : ℕ) (front rest : List Placed) → Unbroken front → ends_here rest ≡ true → Quoted quote front rest
  after_mark quote [] rest all ends = record { inner = []; left = []; split = refl; after = quote_at_end quote rest ends; more = none_taken rest [] refl }
  after_mark quote (b ∷ front) rest all ends =
      let stays = unbroken_stays 47 b.byte all.0 in
      by_test (Quoted quote (b ∷ front) rest) (b.byte == quote)
      (λ mark. record { inner = b ∷ []; left = front; split = refl; after = rw (stays.1.1, mark) refl; more = all_covered front rest all.1 ends })
      (λ other.
      let q = after_mark quote front rest all.1 ends in
      record { inner = b ∷ q.inner; left = q.left; split = ap (λ (x : List Placed). b ∷ x) q.split; after = rw (stays.1.1, other, stays.1.0) q.after; more = q.more })

-- a run up to the end of a line is parts, one after the other
pub line_taken : (text rest : List Placed) (run new : List ℕ) → HasRun (is_unbroken 47) text run rest → ends_here rest ≡ true → new ≡ run → TakesParts text rest [] new
line_taken text rest run new r ends is =
    subst (λ (t : List Placed). TakesParts t rest [] new) (sym r.whole)
    (subst (λ (bytes : List ℕ). TakesParts (r.front ++ rest) rest [] bytes) (sym (is ∙ r.bytes)) (all_covered r.front rest r.all ends))

-- a run takes the text further, or it is empty
pub run_moves : (test : ℕ → Bool) (text rest : List Placed) (run : List ℕ) (left all : ℕ) → HasRun test text run rest → length run + left ≡ all → (left < all) ⊎ (rest ≡ text)
run_moves test text rest [] left all r size = inr (none r.front r.bytes r.whole)
  where
    none : (front : List Placed) → [] ≡ bytes_of front → text ≡ front ++ rest → rest ≡ text
    none [] is whole = sym whole
    none (a ∷ front) is whole = absurd cc
run_moves test text rest (b ∷ run) left all r size = inl (omega (arith, size))
