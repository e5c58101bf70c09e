-- Runs of bytes that stand ahead, and what they are in a text.
use Rattle.std.proofs.Common.{◌≡◌, ℕ, Bool, true, false, List, [], ◌∷◌, ◌++◌, Some, refl, sym, ap, subst, ◌∙◌, append_assoc, take, drop}
use Rattle.std.specs.Prelude.{cond, not, ◌==◌, ◌&&◌}
use Rattle.std.specs.List.{flat_map, prefix_len, take_while, AllByRecursion}
use Rattle.std.proofs.lemmas.Bool.{and_parts, not-true}
use Rattle.std.proofs.lemmas.List.{append-nil, map-append, take-append-drop}
use Rattle.std.proofs.lemmas.List.Concat.{flat_map-cons}
use Rattle.std.proofs.lemmas.List.Sums.{take_while-cons}
use Rattle.rz_lex.specs.declared.joined.Placed.{Placed}
use Rattle.rz_lex.specs.Classes.{is_quote}
use Rattle.rz_lex.specs.Cover.{after_close, after_part, after_quote, after_text, bytes_of, text_of, Parts, TakesPart}
use Rattle.rz_lex.specs.Joined.{joined}
use Rattle.rz_lex.specs.Runs.{is_plain, is_unbroken, HasRun, IsInside, TakesParts}
use Rattle.rz_core.proofs.Tests.{by_test}

-- each byte passes this test
abbrev pub Pass : (ℕ → Bool) → List ℕ → Type 0
Pass test bytes = AllByRecursion (λ byte. test byte ≡ true) bytes

pub front_passes : (test : ℕ → Bool) (bytes : List ℕ) → Pass test (take_while test bytes)
front_passes test [] = tt
front_passes test (b ∷ bytes) = subst (Pass test) (sym (take_while-cons test b bytes))
    (by_test (Pass test (cond (test b) (b ∷ take_while test bytes) [])) (test b) (λ h. rw h (h, front_passes test bytes)) (λ h. rw h tt))

-- A byte that is neither a backslash nor ends a line.

abbrev pub Stays : ℕ → Type 0
Stays b = (b == 92 ≡ false) × (b == 10 ≡ false) × (b == 13 ≡ false)

pub unbroken_stays : (stop b : ℕ) → is_unbroken stop b ≡ true → (b == stop ≡ false) × Stays b
unbroken_stays stop b is =
    let last = and_parts (not (b == stop) && not (b == 92) && not (b == 10)) (not (b == 13)) is in
    let third = and_parts (not (b == stop) && not (b == 92)) (not (b == 10)) last.0 in
    let second = and_parts (not (b == stop)) (not (b == 92)) third.0 in
    (not-true (b == stop) second.0, (not-true (b == 92) second.1, not-true (b == 10) third.1, not-true (b == 13) last.1))

plain_parts : (b : ℕ) → is_plain b ≡ true → (is_unbroken 47 b ≡ true) × (is_quote b ≡ false)
plain_parts b is = let both = and_parts (is_unbroken 47 b) (not (is_quote b)) is in (both.0, not-true (is_quote b) both.1)

joined_more : (line b : ℕ) (bytes : List ℕ) → Stays b → joined line (b ∷ bytes) ≡ record { byte = b; line = line } ∷ joined line bytes
joined_more line b bytes stays = rw (stays.2, stays.1, stays.0) refl

-- A run in the joined text.

module _ (test : ℕ → Bool) (stays : (b : ℕ) → test b ≡ true → Stays b) where
  pub has_run : (line : ℕ) (run rest : List ℕ) → Pass test run → HasRun test (joined line (run ++ rest)) run (joined line rest)
  has_run line [] rest all = record { front = []; whole = refl; bytes = refl; all = tt }
  has_run line (b ∷ run) rest all =
      let more = has_run line run rest all.1 in
      let first : Placed = record { byte = b; line = line } in
      record {
        front = first ∷ more.front;
        whole = joined_more line b (run ++ rest) (stays b all.0) ∙ ap (λ (t : List Placed). first ∷ t) more.whole;
        bytes = ap (λ (bs : List ℕ). b ∷ bs) more.bytes;
        all = (all.0, more.all);
      }

  run_ahead : (line : ℕ) (bytes : List ℕ) → HasRun test (joined line bytes) (take_while test bytes) (joined line (drop (prefix_len test bytes) bytes))
  run_ahead line bytes =
      subst (λ (whole : List ℕ). HasRun test (joined line whole) (take_while test bytes) (joined line (drop (prefix_len test bytes) bytes)))
      (take-append-drop (prefix_len test bytes) bytes)
      (has_run line (take_while test bytes) (drop (prefix_len test bytes) bytes) (front_passes test bytes))

pub plain_ahead : (line : ℕ) (bytes : List ℕ) → HasRun is_plain (joined line bytes) (take_while is_plain bytes) (joined line (drop (prefix_len is_plain bytes) bytes))
plain_ahead = run_ahead is_plain (λ b is. (unbroken_stays 47 b (plain_parts b is).0).1)

pub unbroken_ahead : (stop line : ℕ) (bytes : List ℕ)
    → HasRun (is_unbroken stop) (joined line bytes) (take_while (is_unbroken stop) bytes) (joined line (drop (prefix_len (is_unbroken stop) bytes) bytes))
unbroken_ahead stop = run_ahead (is_unbroken stop) (λ b is. (unbroken_stays stop b is).1)

-- What a run does not change.

abbrev Unbroken : ℕ → List Placed → Type 0
Unbroken stop front = AllByRecursion (λ placed. is_unbroken stop placed.byte ≡ true) front

quote_over : (quote : ℕ) (front rest : List Placed) → Unbroken quote front → after_quote quote (front ++ rest) ≡ after_quote quote rest
quote_over quote [] rest all = refl
quote_over quote (a ∷ front) rest all =
    let is = unbroken_stays quote a.byte all.0 in
    rw (is.1.1, is.0, is.1.0) (quote_over quote front rest all.1)

text_over : (stop : ℕ) (front rest : List Placed) → Unbroken stop front → after_text (front ++ rest) ≡ after_text rest
text_over stop [] rest all = refl
text_over stop (a ∷ front) rest all = let is = unbroken_stays stop a.byte all.0 in rw is.1.1 (text_over stop front rest all.1)

close_over : (front rest : List Placed) → Unbroken 42 front → after_close (front ++ rest) ≡ after_close rest
close_over [] rest all = refl
close_over (a ∷ front) rest all = let is = unbroken_stays 42 a.byte all.0 in rw is.0 (close_over front rest all.1)

pub quote_same : (quote : ℕ) (text rest : List Placed) (run : List ℕ) → HasRun (is_unbroken quote) text run rest → after_quote quote text ≡ after_quote quote rest
quote_same quote text rest run r = ap (after_quote quote) r.whole ∙ quote_over quote r.front rest r.all

pub text_same : (stop : ℕ) (text rest : List Placed) (run : List ℕ) → HasRun (is_unbroken stop) text run rest → after_text text ≡ after_text rest
text_same stop text rest run r = ap after_text r.whole ∙ text_over stop r.front rest r.all

pub close_same : (text rest : List Placed) (run : List ℕ) → HasRun (is_unbroken 42) text run rest → after_close text ≡ after_close rest
close_same text rest run r = ap after_close r.whole ∙ close_over r.front rest r.all

-- the bytes of the run were appended
pub run_copied : (test : ℕ → Bool) (text rest : List Placed) (run old new : List ℕ) → HasRun test text run rest → new ≡ old ++ run → old ++ bytes_of text ≡ new ++ bytes_of rest
run_copied test text rest run old new r is =
    ap (λ (t : List Placed). old ++ bytes_of t) r.whole
    ∙ ap (λ (bs : List ℕ). old ++ bs) (map-append (λ (p : Placed). p.byte) r.front rest)
    ∙ sym (append_assoc old (bytes_of r.front) (bytes_of rest))
    ∙ ap (λ (bs : List ℕ). (old ++ bs) ++ bytes_of rest) (sym r.bytes)
    ∙ ap (λ (bs : List ℕ). bs ++ bytes_of rest) (sym is)

-- Plain bytes are parts.

abbrev Plain : List Placed → Type 0
Plain front = AllByRecursion (λ placed. is_plain placed.byte ≡ true) front

singles : List Placed → List (List Placed)
singles [] = []
singles (a ∷ front) = (a ∷ []) ∷ singles front

single_after : (a : Placed) (rest : List Placed) → is_plain a.byte ≡ true → after_part (a ∷ rest) ≡ Some rest
single_after a rest is = let both = plain_parts a.byte is in rw ((unbroken_stays 47 a.byte both.0).0, both.1) refl

single_text : (a : Placed) → is_plain a.byte ≡ true → text_of (a ∷ []) ≡ a.byte ∷ []
single_text a is = rw (unbroken_stays 47 a.byte (plain_parts a.byte is).0).0 refl

parts_over : (front rest : List Placed) → Plain front → Parts (front ++ rest) (singles front) rest
unfolding singles
parts_over [] rest all = refl
parts_over (a ∷ front) rest all = (front ++ rest, refl, single_after a (front ++ rest) all.0, parts_over front rest all.1)

singles_inside : (front : List Placed) → Plain front → AllByRecursion IsInside (singles front)
unfolding singles
singles_inside [] all = tt
singles_inside (a ∷ front) all = (((unbroken_stays 47 a.byte (plain_parts a.byte all.0).0).1.1, λ none. absurd cc), singles_inside front all.1)

singles_left : (front : List Placed) → Plain front → flat_map text_of (singles front) ≡ bytes_of front
unfolding singles
singles_left [] all = refl
singles_left (a ∷ front) all =
    flat_map-cons text_of (a ∷ []) (singles front) ∙ ap (λ (bs : List ℕ). bs ++ flat_map text_of (singles front)) (single_text a all.0)
    ∙ ap (λ (bs : List ℕ). a.byte ∷ bs) (singles_left front all.1)

pub plain_taken : (text rest : List Placed) (run old new : List ℕ) → HasRun is_plain text run rest → new ≡ old ++ run → TakesParts text rest old new
plain_taken text rest run old new r is = record {
  parts = singles r.front;
  taken = subst (λ (t : List Placed). Parts t (singles r.front) rest) (sym r.whole) (parts_over r.front rest r.all);
  inside = singles_inside r.front r.all;
  left = is ∙ ap (λ (bs : List ℕ). old ++ bs) (r.bytes ∙ sym (singles_left r.front r.all));
}

-- one part that was taken
pub part_taken : (text rest : List Placed) (old new : List ℕ) → TakesPart text rest old new → TakesParts text rest old new
part_taken text rest old new t = record {
  parts = t.part ∷ [];
  taken = (rest, t.whole, t.after, refl);
  inside = ((t.inside, t.there), tt);
  left = t.left ∙ ap (λ (bs : List ℕ). old ++ bs) (sym (flat_map-cons text_of t.part [] ∙ append-nil (text_of t.part)));
}

-- the run and what stands after it, as the text is split
pub split_is : (test : ℕ → Bool) (line : ℕ) (bytes run rest : List ℕ) (size behind : ℕ) → size ≡ prefix_len test bytes → run ≡ take size bytes → rest ≡ drop size bytes → behind ≡ line
    → HasRun test (joined line bytes) (take_while test bytes) (joined line (drop (prefix_len test bytes) bytes)) → HasRun test (joined line bytes) run (joined behind rest)
split_is test line bytes run rest size behind counted front back same r =
    let is_run : take_while test bytes ≡ run = ap (λ (n : ℕ). take n bytes) (sym counted) ∙ sym front in
    let is_rest : joined line (drop (prefix_len test bytes) bytes) ≡ joined behind rest =
    ap (λ (n : ℕ). joined line (drop n bytes)) (sym counted) ∙ ap (joined line) (sym back) ∙ ap (λ (n : ℕ). joined n rest) (sym same) in
    subst (λ (y : List Placed). HasRun test (joined line bytes) run y) is_rest
    (subst (λ (x : List ℕ). HasRun test (joined line bytes) x (joined line (drop (prefix_len test bytes) bytes))) is_run r)
