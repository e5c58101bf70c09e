-- Where the first statement ends, and how reading goes on after it.
use Rattle.std.proofs.Common.{◌≡◌, ◌≢◌, ℕ, zero, suc, ◌+◌, ◌<◌, ◌≤◌, Bool, true, false, ◌||◌, inl, inr, List, [], ◌∷◌, ◌++◌, length, take, drop, refl, sym, ap, subst, ◌∙◌, arith, append_assoc, append-nil, length-append}
use Rattle.std.specs.Prelude.{◌⊎◌, if◌then◌else◌}
use Rattle.std.proofs.lemmas.Bool.{or_parts, or_right}
use Rattle.rz_core.proofs.Tests.{true_false, by_test}
use Rattle.rz_lex.specs.declared.token.Token.{Token}
use Rattle.rz_stmt_brackets.specs.Cutting.{size_of}
use Rattle.rz_stmt_brackets.specs.Statements.{has_end, is_end, open_behind, open_behind_all, spans_from, AreStatements, HasSpans, IsRest, IsStatement}
use Rattle.rz_stmt_brackets.specs.declared.span.Span.{Span}

-- the first statement: it ends, or it is all there is
data First (count : ℕ) (tokens : List Token) : Type 0 where
  ended : (front : List Token) (last : Token) (behind : List Token) → tokens ≡ (front ++ last ∷ []) ++ behind → size_of count tokens ≡ length (front ++ last ∷ [])
      → has_end count front ≡ false → is_end last.shape (open_behind_all front count) ≡ true → First count tokens
  all : size_of count tokens ≡ length tokens → has_end count tokens ≡ false → First count tokens

first_of : (count : ℕ) (tokens : List Token) → First count tokens
first_of count [] = all refl refl
first_of count (token ∷ tokens) = by_test (First count (token ∷ tokens)) (is_end token.shape count)
    (λ ends. ended [] token tokens refl (ap (λ (b : Bool). if b then 1 else suc (size_of (open_behind token.shape count) tokens)) ends) refl ends)
    (λ goes_on. onto goes_on (first_of (open_behind token.shape count) tokens))
  where
    sized : is_end token.shape count ≡ false → size_of count (token ∷ tokens) ≡ suc (size_of (open_behind token.shape count) tokens)
    sized goes_on = ap (λ (b : Bool). if b then 1 else suc (size_of (open_behind token.shape count) tokens)) goes_on

    onto : is_end token.shape count ≡ false → First (open_behind token.shape count) tokens → First count (token ∷ tokens)
    onto goes_on (ended front last behind are size none ends) =
        ended (token ∷ front) last behind (ap (λ (ts : List Token). token ∷ ts) are) (sized goes_on ∙ ap suc size)
        (ap (λ (b : Bool). b || has_end (open_behind token.shape count) front) goes_on ∙ none) ends
    onto goes_on (all size none) = all (sized goes_on ∙ ap suc size) (ap (λ (b : Bool). b || has_end (open_behind token.shape count) tokens) goes_on ∙ none)

-- The reader.

no_more : (xs ys : List Token) (x : Token) → [] ≡ (xs ++ x ∷ []) ++ ys → ⊥
no_more [] ys x is = cc is
no_more (y ∷ xs) ys x is = cc is

-- no tokens are no statements
none_left : (statements : List (List Token)) → AreStatements [] statements → statements ≡ []
none_left [] are = refl
none_left (statement ∷ statements) (behind, are, inl (ends, others)) =
    absurd (no_more ends.front behind ends.last (are ∙ ap (λ (ts : List Token). ts ++ behind) ends.are))
none_left (statement ∷ statements) (behind, are, inr (rest, none, no_others)) = absurd (rest.some (empty statement behind are))
  where
    empty : (xs ys : List Token) → [] ≡ xs ++ ys → xs ≡ []
    empty [] ys is = refl
    empty (x ∷ xs) ys is = absurd (cc is)

-- whatever the rest of the tokens are, all are that after the statements so far
pub record Cutting (tokens rest : List Token) (start : ℕ) (spans : List Span) : Type 0 where
  pub leads : (statements : List (List Token)) → AreStatements rest statements
      → (all : List (List Token)) × AreStatements tokens all × (spans ++ spans_from start statements ≡ spans_from 0 all)
  pub placed : start + length rest ≡ length tokens

pub none_cut : (tokens : List Token) → Cutting tokens tokens 0 []
none_cut tokens = record { leads = λ statements are. (statements, are, refl); placed = omega arith }

pub all_cut : (tokens : List Token) (start : ℕ) (spans : List Span) → Cutting tokens [] start spans → HasSpans tokens spans
all_cut tokens start spans c = let l = c.leads [] refl in (l.0, l.1, sym (append-nil spans) ∙ l.2)

pub take_front : (xs ys : List Token) (n : ℕ) → n ≡ length xs → take n (xs ++ ys) ≡ xs
take_front [] ys n is = subst (λ k. take k ys ≡ []) (sym is) refl
take_front (x ∷ xs) ys n is = subst (λ k. take k ((x ∷ xs) ++ ys) ≡ x ∷ xs) (sym is) (ap (λ (ts : List Token). x ∷ ts) (take_front xs ys (length xs) refl))

drop_front : (xs ys : List Token) (n : ℕ) → n ≡ length xs → drop n (xs ++ ys) ≡ ys
drop_front [] ys n is = subst (λ k. drop k ys ≡ ys) (sym is) refl
drop_front (x ∷ xs) ys n is = subst (λ k. drop k ((x ∷ xs) ++ ys) ≡ ys) (sym is) (drop_front xs ys (length xs) refl)

pub size_some : (tokens : List Token) → 0 < length tokens → 0 < size_of 0 tokens
size_some tokens some = by (first_of 0 tokens)
  where
    by : First 0 tokens → 0 < size_of 0 tokens
    by (ended front last behind are size none ends) = omega (arith, size, length-append front (last ∷ []))
    by (all size none) = omega (arith, size, some)

pub size_within : (tokens : List Token) → size_of 0 tokens ≤ length tokens
size_within tokens = by (first_of 0 tokens)
  where
    by : First 0 tokens → size_of 0 tokens ≤ length tokens
    by (ended front last behind are size none ends) = omega (arith, size, ap (λ (ts : List Token). length ts) are, length-append (front ++ last ∷ []) behind)
    by (all size none) = omega (arith, size)

module _ (rest : List Token) (some : rest ≢ []) where
  -- the first of the rest, whose tokens are so many
  abbrev pub Next : Type 0
  Next = (behind statement : List Token) × (rest ≡ statement ++ behind) × (drop (size_of 0 rest) rest ≡ behind) × (size_of 0 rest ≡ length statement)
      × (IsStatement statement ⊎ (IsRest statement × (behind ≡ [])))

  pub next : Next
  next = by (first_of 0 rest)
    where
      by : First 0 rest → Next
      by (ended front last behind are size none ends) = (
        behind,
        front ++ last ∷ [],
        are,
        subst (λ (ts : List Token). drop (size_of 0 rest) ts ≡ behind) (sym are) (drop_front (front ++ last ∷ []) behind (size_of 0 rest) size),
        size,
        inl (record { front = front; last = last; are = refl; goes_on = none; ends = ends }),
      )
      by (all size none) = (
        [],
        rest,
        sym (append-nil rest),
        subst (λ (ts : List Token). drop (size_of 0 rest) ts ≡ []) (append-nil rest) (drop_front rest [] (size_of 0 rest) size),
        size,
        inr (record { some = some; goes_on = none }, refl),
      )

  pub step : (n : Next) (statements : List (List Token)) → AreStatements n.0 statements → AreStatements rest (n.1 ∷ statements)
  step (behind, statement, are, dropped, size, inl ends) statements others = (behind, are, inl (ends, others))
  step (behind, statement, are, dropped, size, inr (ends, none)) statements others =
      (behind, are, inr (ends, none, none_left statements (subst (λ (ts : List Token). AreStatements ts statements) none others)))

pub cut_more : (tokens rest : List Token) (start : ℕ) (spans : List Span) → Cutting tokens rest start spans → (some : rest ≢ [])
    → (end : ℕ) (after : List Span) → end ≡ start + size_of 0 rest → after ≡ spans ++ record { start = start; end = end } ∷ []
    → Cutting tokens (drop (size_of 0 rest) rest) end after
cut_more tokens rest start spans c some end after is more =
    let first = next rest some in
    record {
      leads = λ statements others.
          let l = c.leads (first.1 ∷ statements) (step rest some first statements (subst (λ (ts : List Token). AreStatements ts statements) first.3 others)) in
          let at : end ≡ start + length first.1 = is ∙ ap (λ n. start + n) first.4 in (
            l.0,
            l.1,
            ap (λ (ss : List Span). ss ++ spans_from end statements) more ∙ append_assoc spans (record { start = start; end = end } ∷ []) (spans_from end statements)
                ∙ ap (λ (e : ℕ). spans ++ record { start = start; end = e } ∷ spans_from e statements) at ∙ l.2,
          );
      placed = omega (arith, c.placed, is, ap (λ (ts : List Token). length ts) first.2, length-append first.1 first.0, first.4, ap (λ (ts : List Token). length ts) first.3);
    }

-- One way.

goes_past : (count : ℕ) (front behind : List Token) (last : Token) → is_end last.shape (open_behind_all front count) ≡ true → has_end count ((front ++ last ∷ []) ++ behind) ≡ true
goes_past count [] behind last ends = ap (λ (b : Bool). b || has_end (open_behind last.shape count) behind) ends
goes_past count (token ∷ front) behind last ends = or_right (is_end token.shape count) _ (goes_past (open_behind token.shape count) front behind last ends)

-- two statements at the front of the same tokens are one
same_statement : (count : ℕ) (f g b d : List Token) (l m : Token) → has_end count f ≡ false → has_end count g ≡ false
    → is_end l.shape (open_behind_all f count) ≡ true → is_end m.shape (open_behind_all g count) ≡ true
    → (f ++ l ∷ []) ++ b ≡ (g ++ m ∷ []) ++ d → (f ++ l ∷ [] ≡ g ++ m ∷ []) × (b ≡ d)
same_statement count [] [] b d l m nf ng el em is = (ap (λ (t : Token). t ∷ []) (heads is), tails is)
  where
    heads : l ∷ b ≡ m ∷ d → l ≡ m
    heads e = cc e

    tails : l ∷ b ≡ m ∷ d → b ≡ d
    tails e = cc e
same_statement count [] (y ∷ g) b d l m nf ng el em is =
    absurd (true_false (sym el ∙ ap (λ (t : Token). is_end t.shape count) (heads is) ∙ (or_parts _ _ ng).0))
  where
    heads : l ∷ b ≡ y ∷ ((g ++ m ∷ []) ++ d) → l ≡ y
    heads e = cc e
same_statement count (x ∷ f) [] b d l m nf ng el em is =
    absurd (true_false (sym em ∙ ap (λ (t : Token). is_end t.shape count) (sym (heads is)) ∙ (or_parts _ _ nf).0))
  where
    heads : x ∷ ((f ++ l ∷ []) ++ b) ≡ m ∷ d → x ≡ m
    heads e = cc e
same_statement count (x ∷ f) (y ∷ g) b d l m nf ng el em is =
    let head = heads is in
    let r = same_statement (open_behind x.shape count) f g b d l m (or_parts _ _ nf).1
    (subst (λ (t : Token). has_end (open_behind t.shape count) g ≡ false) (sym head) (or_parts _ _ ng).1) el
    (subst (λ (t : Token). is_end m.shape (open_behind_all g (open_behind t.shape count)) ≡ true) (sym head) em) (tails is) in
    ((λ i. head i ∷ r.0 i), r.1)
  where
    heads : x ∷ ((f ++ l ∷ []) ++ b) ≡ y ∷ ((g ++ m ∷ []) ++ d) → x ≡ y
    heads e = cc e

    tails : x ∷ ((f ++ l ∷ []) ++ b) ≡ y ∷ ((g ++ m ∷ []) ++ d) → (f ++ l ∷ []) ++ b ≡ (g ++ m ∷ []) ++ d
    tails e = cc e

pub one_way : (tokens : List Token) (statements others : List (List Token)) → AreStatements tokens statements → AreStatements tokens others → statements ≡ others
one_way tokens [] others are also = sym (none_left others (subst (λ (ts : List Token). AreStatements ts others) are also))
one_way tokens (s ∷ ss) [] are also = none_left (s ∷ ss) (subst (λ (ts : List Token). AreStatements ts (s ∷ ss)) also are)
one_way tokens (s ∷ ss) (o ∷ os) (b, are, inl (x, more)) (d, also, inl (y, further)) =
    let r = same_statement 0 x.front y.front b d x.last y.last x.goes_on y.goes_on x.ends y.ends
    (ap (λ (ts : List Token). ts ++ b) (sym x.are) ∙ sym are ∙ also ∙ ap (λ (ts : List Token). ts ++ d) y.are) in
    let rest = one_way b ss os more (subst (λ (ts : List Token). AreStatements ts os) (sym r.1) further) in
    (λ i. (x.are ∙ r.0 ∙ sym y.are) i ∷ rest i)
one_way tokens (s ∷ ss) (o ∷ os) (b, are, inl (x, more)) (d, also, inr (y, none, no_others)) =
    absurd (true_false (sym (goes_past 0 x.front b x.last x.ends)
    ∙ ap (has_end 0) (ap (λ (ts : List Token). ts ++ b) (sym x.are) ∙ sym are ∙ also ∙ ap (λ (ts : List Token). o ++ ts) none ∙ append-nil o) ∙ y.goes_on))
one_way tokens (s ∷ ss) (o ∷ os) (b, are, inr (x, none, no_others)) (d, also, inl (y, further)) =
    absurd (true_false (sym (goes_past 0 y.front d y.last y.ends)
    ∙ ap (has_end 0) (ap (λ (ts : List Token). ts ++ d) (sym y.are) ∙ sym also ∙ are ∙ ap (λ (ts : List Token). s ++ ts) none ∙ append-nil s) ∙ x.goes_on))
one_way tokens (s ∷ ss) (o ∷ os) (b, are, inr (x, none, no_others)) (d, also, inr (y, none_too, no_others_too)) =
    let same : s ≡ o = sym (append-nil s) ∙ ap (λ (ts : List Token). s ++ ts) (sym none) ∙ sym are ∙ also ∙ ap (λ (ts : List Token). o ++ ts) none_too ∙ append-nil o in
    (λ i. same i ∷ (no_others ∙ sym no_others_too) i)

-- Some way: so many tokens at most are statements.
pub some_way : (count : ℕ) (tokens : List Token) → length tokens ≤ count → (statements : List (List Token)) × AreStatements tokens statements
some_way count [] few = ([], refl)
some_way zero (token ∷ tokens) few = absurd (omega (arith, few))
some_way (suc count) (token ∷ tokens) few = by (some_way count) (first_of 0 (token ∷ tokens))
  where
    some : token ∷ tokens ≢ []
    some is = cc is

    by : ((behind : List Token) → length behind ≤ count → (statements : List (List Token)) × AreStatements behind statements)
        → First 0 (token ∷ tokens) → (statements : List (List Token)) × AreStatements (token ∷ tokens) statements
    by fewer (ended front last behind are size none ends) =
        let others = fewer behind (omega (arith, few, ap (λ (ts : List Token). length ts) are, length-append (front ++ last ∷ []) behind, length-append front (last ∷ []))) in
        ((front ++ last ∷ []) ∷ others.0, (behind, are, inl (record { front = front; last = last; are = refl; goes_on = none; ends = ends }, others.1)))
    by fewer (all size none) =
        ((token ∷ tokens) ∷ [], ([], sym (append-nil (token ∷ tokens)), inr (record { some = some; goes_on = none }, refl, refl)))
