-- The first part of a text, in the words of the language.
use Rattle.std.proofs.Common.{◌≡◌, ◌≢◌, ℕ, Bool, true, false, ◌⊎◌, inl, inr, List, [], ◌∷◌, ◌++◌, drop, Some, None, refl, sym, ap, subst, ◌∙◌, append_assoc}
use Rattle.std.specs.Prelude.{◌==◌, ◌&&◌, ◌↔◌}
use Rattle.std.specs.List.{AllByRecursion}
use Rattle.std.proofs.lemmas.Bool.{and_parts, eqb-true, eqb-false, eq-eqb, false≢true, ne_eqb}
use Rattle.rz_lex.specs.declared.joined.Placed.{Placed}
use Rattle.rz_lex.specs.Classes.{is_quote}
use Rattle.rz_lex.specs.Joined.{is_at}
use Rattle.rz_lex.specs.Cover.{after_close, after_part, after_quote, after_taken, after_text, begins}
use Rattle.rz_lex.specs.Part.{block, nothing, other, plain, quoted, slashes, taken, with_backslash, with_line, with_mark, AtEnd, EndsQuote, InQuote, IsOpen, IsPart, NoClose}
use Rattle.rz_core.proofs.Tests.{by_test}

-- Where `*/` stands.

closes_here : Placed → List Placed → Bool
closes_here a rest = a.byte == 42 && is_at 47 rest

none_behind : (a : Placed) (rest : List Placed) → NoClose (a ∷ rest) → NoClose rest
none_behind a rest none front behind star slash is = none (a ∷ front) behind star slash (ap (λ (t : List Placed). a ∷ t) is)

none_here : (a : Placed) (rest : List Placed) → NoClose (a ∷ rest) → (a.byte == 42 && is_at 47 rest) ≡ false
none_here a [] none = and_false (a.byte == 42)
  where
    and_false : (b : Bool) → (b && false) ≡ false
    and_false true = refl
    and_false false = refl
none_here a (b ∷ rest) none = by_test ((a.byte == 42 && b.byte == 47) ≡ false) (a.byte == 42 && b.byte == 47)
    (λ h. (let both = and_parts (a.byte == 42) (b.byte == 47) h in absurd (none [] rest a b refl (eqb-true a.byte 42 both.0) (eqb-true b.byte 47 both.1))))
    (λ h. h)

none_more : (a : Placed) (rest : List Placed) → (a.byte == 42 && is_at 47 rest) ≡ false → NoClose rest → NoClose (a ∷ rest)
none_more a rest here none [] behind star slash is one two =
    let first : a ≡ star = cc in
    let second : rest ≡ slash ∷ behind = cc in
    let test : (a.byte == 42 && is_at 47 rest) ≡ true = rw (first, second, one, two) refl in
    false≢true (sym here ∙ test)
none_more a rest here none (z ∷ front) behind star slash is one two = none front behind star slash (cc) one two

none_empty : NoClose []
none_empty [] behind star slash is = absurd cc
none_empty (z ∷ front) behind star slash is = absurd cc

-- the comment that ends, and what stands after it
record Closed (text rest : List Placed) : Type 0 where
  body : List Placed
  star : Placed
  slash : Placed
  whole : text ≡ body ++ star ∷ slash ∷ rest
  is_star : star.byte ≡ 42
  is_slash : slash.byte ≡ 47
  first : NoClose (body ++ star ∷ [])

head_kept : (body : List Placed) (star slash : Placed) (rest : List Placed) → is_at 47 (body ++ star ∷ slash ∷ rest) ≡ is_at 47 (body ++ star ∷ [])
head_kept [] star slash rest = refl
head_kept (b ∷ body) star slash rest = refl

found : (text rest : List Placed) → after_close text ≡ Some rest → Closed text rest
found [] rest is = absurd cc
found (a ∷ []) rest is = absurd (let e : after_close (a ∷ []) ≡ None = rw (none_of (a.byte == 42)) refl in cc)
  where
    none_of : (b : Bool) → (b && false) ≡ false
    none_of true = refl
    none_of false = refl
found (a ∷ b ∷ text) rest is = by_test (Closed (a ∷ b ∷ text) rest) (a.byte == 42 && b.byte == 47)
    (λ h. (let same : Some text ≡ Some rest = rw h at is in
    let both = and_parts (a.byte == 42) (b.byte == 47) h in
    let here : text ≡ rest = cc in record {
      body = [];
      star = a;
      slash = b;
      whole = ap (λ (t : List Placed). a ∷ b ∷ t) here;
      is_star = eqb-true a.byte 42 both.0;
      is_slash = eqb-true b.byte 47 both.1;
      first = none_more a [] (none_last (a.byte == 42)) none_empty;
    }))
    (λ h. (let later : after_close (b ∷ text) ≡ Some rest = rw h at is in
    let f = found (b ∷ text) rest later in record {
      body = a ∷ f.body;
      star = f.star;
      slash = f.slash;
      whole = ap (λ (t : List Placed). a ∷ t) f.whole;
      is_star = f.is_star;
      is_slash = f.is_slash;
      first = none_more a (f.body ++ f.star ∷ [])
          (ap (λ (t : Bool). a.byte == 42 && t) (sym (ap (is_at 47) f.whole ∙ head_kept f.body f.star f.slash rest)) ∙ h) f.first;
    }))
  where
    none_last : (c : Bool) → (c && false) ≡ false
    none_last true = refl
    none_last false = refl

closed_back : (body : List Placed) (star slash : Placed) (rest : List Placed) → star.byte ≡ 42 → slash.byte ≡ 47 → NoClose (body ++ star ∷ [])
    → after_close (body ++ star ∷ slash ∷ rest) ≡ Some rest
closed_back [] star slash rest one two none = rw (one, two) refl
closed_back (a ∷ body) star slash rest one two none =
    let here : (a.byte == 42 && is_at 47 (body ++ star ∷ slash ∷ rest)) ≡ false =
    ap (λ (t : Bool). a.byte == 42 && t) (head_kept body star slash rest) ∙ none_here a (body ++ star ∷ []) none in
    rw here (closed_back body star slash rest one two (none_behind a (body ++ star ∷ []) none))

never_back : (text : List Placed) → NoClose text → after_close text ≡ None
never_back [] none = refl
never_back (a ∷ text) none = rw (none_here a text none) (never_back text (none_behind a text none))

never_found : (text : List Placed) → after_close text ≡ None → NoClose text
never_found [] is = none_empty
never_found (a ∷ text) is = by_test (NoClose (a ∷ text)) (a.byte == 42 && is_at 47 text)
    (λ h. (let never : Some (drop 1 text) ≡ None = rw h at is in absurd cc))
    (λ h. (let later : after_close text ≡ None = rw h at is in none_more a text h (never_found text later)))

-- The text of a line.

record Lined (text : List Placed) : Type 0 where
  body : List Placed
  whole : text ≡ body ++ after_text text
  inside : AllByRecursion (λ placed. placed.byte ≢ 10) body
  end : AtEnd (after_text text)

lined : (text : List Placed) → Lined text
lined [] = record { body = []; whole = refl; inside = tt; end = inl refl }
lined (a ∷ text) = by_test (Lined (a ∷ text)) (a.byte == 10)
    (λ h. record { body = []; whole = rw h refl; inside = tt; end = rw h (inr h) })
    (λ h. (let f = lined text in record {
      body = a ∷ f.body;
      whole = rw h (ap (λ (t : List Placed). a ∷ t) f.whole);
      inside = (eqb-false a.byte 10 h, f.inside);
      end = rw h f.end;
    }))

end_text : (rest : List Placed) → AtEnd rest → after_text rest ≡ rest
end_text [] end = refl
end_text (a ∷ rest) (inl is) = absurd cc
end_text (a ∷ rest) (inr is) = rw is refl

line_back : (body rest : List Placed) → AllByRecursion (λ placed. placed.byte ≢ 10) body → AtEnd rest → after_text (body ++ rest) ≡ rest
line_back [] rest all end = end_text rest end
line_back (a ∷ body) rest all end = rw (ne_eqb a.byte 10 all.0) (line_back body rest all.1 end)

-- Quoted parts.

record Quoted (quote : ℕ) (text rest : List Placed) : Type 0 where
  body : List Placed
  tail : List Placed
  whole : text ≡ (body ++ tail) ++ rest
  inside : InQuote quote body
  end : EndsQuote quote tail rest

module _ (quote : ℕ) where
  at_line : (a : Placed) (rest : List Placed) → (a.byte == 10) ≡ true → Quoted quote (a ∷ rest) (a ∷ rest)
  at_line a rest h = record { body = []; tail = []; whole = refl; inside = nothing; end = with_line (inr h) refl }

  at_mark : (a : Placed) (rest : List Placed) → (a.byte == quote) ≡ true → Quoted quote (a ∷ rest) rest
  at_mark a rest h = record { body = []; tail = a ∷ []; whole = refl; inside = nothing; end = with_mark a (eqb-true a.byte quote h) refl }

  at_backslash : (a : Placed) (rest : List Placed) → (a.byte == 92) ≡ true → AtEnd rest → Quoted quote (a ∷ rest) rest
  at_backslash a rest h end = record { body = []; tail = a ∷ []; whole = refl; inside = nothing; end = with_backslash a (eqb-true a.byte 92 h) end refl }

  over_plain : (a : Placed) (text rest : List Placed) → (a.byte == 10) ≡ false → (a.byte == quote) ≡ false → (a.byte == 92) ≡ false → Quoted quote text rest → Quoted quote (a ∷ text) rest
  over_plain a text rest h k l f = record {
    body = a ∷ f.body;
    tail = f.tail;
    whole = ap (λ (t : List Placed). a ∷ t) f.whole;
    inside = plain a f.body (eqb-false a.byte quote k) (eqb-false a.byte 92 l) (eqb-false a.byte 10 h) f.inside;
    end = f.end;
  }

  over_taken : (a b : Placed) (text rest : List Placed) → (a.byte == 92) ≡ true → (b.byte == 10) ≡ false → Quoted quote text rest → Quoted quote (a ∷ b ∷ text) rest
  over_taken a b text rest h k f = record {
    body = a ∷ b ∷ f.body;
    tail = f.tail;
    whole = ap (λ (t : List Placed). a ∷ b ∷ t) f.whole;
    inside = taken a b f.body (eqb-true a.byte 92 h) (eqb-false b.byte 10 k) f.inside;
    end = f.end;
  }

  quote_found : (text : List Placed) → Quoted quote text (after_quote quote text)
  quote_found [] = record { body = []; tail = []; whole = refl; inside = nothing; end = with_line (inl refl) refl }
  quote_found (a ∷ []) = by_test (Quoted quote (a ∷ []) (after_quote quote (a ∷ []))) (a.byte == 10)
      (λ h. rw h (at_line a [] h))
      (λ h. by_test (Quoted quote (a ∷ []) (after_quote quote (a ∷ []))) (a.byte == quote)
      (λ k. rw (h, k) (at_mark a [] k))
      (λ k. by_test (Quoted quote (a ∷ []) (after_quote quote (a ∷ []))) (a.byte == 92)
      (λ l. rw (h, k, l) (at_backslash a [] l (inl refl)))
      (λ l. rw (h, k, l) (over_plain a [] [] h k l (quote_found [])))))
  quote_found (a ∷ b ∷ text) = by_test (Quoted quote (a ∷ b ∷ text) (after_quote quote (a ∷ b ∷ text))) (a.byte == 10)
      (λ h. rw h (at_line a (b ∷ text) h))
      (λ h. by_test (Quoted quote (a ∷ b ∷ text) (after_quote quote (a ∷ b ∷ text))) (a.byte == quote)
      (λ k. rw (h, k) (at_mark a (b ∷ text) k))
      (λ k. by_test (Quoted quote (a ∷ b ∷ text) (after_quote quote (a ∷ b ∷ text))) (a.byte == 92)
      (λ l. by_test (Quoted quote (a ∷ b ∷ text) (after_quote quote (a ∷ b ∷ text))) (b.byte == 10)
      (λ m. rw (h, k, l, m) (at_backslash a (b ∷ text) l (inr m)))
      (λ m. rw (h, k, l, m) (over_taken a b text (after_quote quote text) l m (quote_found text))))
      (λ l. (let f = quote_found (b ∷ text) in rw (h, k, l) (over_plain a (b ∷ text) (after_quote quote (b ∷ text)) h k l f)))))

  end_quote : (rest : List Placed) → AtEnd rest → after_quote quote rest ≡ rest
  end_quote [] end = refl
  end_quote (a ∷ rest) (inl is) = absurd cc
  end_quote (a ∷ rest) (inr is) = rw is refl

  end_taken : (rest : List Placed) → AtEnd rest → after_taken quote rest ≡ rest
  end_taken [] end = refl
  end_taken (a ∷ rest) (inl is) = absurd cc
  end_taken (a ∷ rest) (inr is) = rw is refl

  mark_back : (mark : Placed) (rest : List Placed) → mark.byte ≡ quote → (quote == 10) ≡ false → after_quote quote (mark ∷ rest) ≡ rest
  mark_back mark rest is no_line = rw (is, no_line, eq-eqb quote quote refl) refl

  backslash_back : (a : Placed) (rest : List Placed) → a.byte ≡ 92 → (92 == quote) ≡ false → AtEnd rest → after_quote quote (a ∷ rest) ≡ rest
  backslash_back a rest is no_mark end = rw (is, no_mark) (end_taken rest end)

  tail_back : (tail rest : List Placed) → (quote == 10) ≡ false → (92 == quote) ≡ false → EndsQuote quote tail rest → after_quote quote (tail ++ rest) ≡ rest
  tail_back tail rest no_line no_mark (with_mark mark is tail_is) = ap (λ (t : List Placed). after_quote quote (t ++ rest)) tail_is ∙ mark_back mark rest is no_line
  tail_back tail rest no_line no_mark (with_line end tail_is) = ap (λ (t : List Placed). after_quote quote (t ++ rest)) tail_is ∙ end_quote rest end
  tail_back tail rest no_line no_mark (with_backslash a is end tail_is) = ap (λ (t : List Placed). after_quote quote (t ++ rest)) tail_is ∙ backslash_back a rest is no_mark end

  plain_back : (a : Placed) (text : List Placed) → a.byte ≢ quote → a.byte ≢ 92 → a.byte ≢ 10 → after_quote quote (a ∷ text) ≡ after_quote quote text
  plain_back a text no_mark no_backslash no_line = rw (ne_eqb a.byte 10 no_line, ne_eqb a.byte quote no_mark, ne_eqb a.byte 92 no_backslash) refl

  taken_back : (a b : Placed) (text : List Placed) → a.byte ≡ 92 → (92 == quote) ≡ false → b.byte ≢ 10 → after_quote quote (a ∷ b ∷ text) ≡ after_quote quote text
  taken_back a b text is no_mark no_line = rw (is, no_mark, ne_eqb b.byte 10 no_line) refl

  body_back : (body behind : List Placed) → (92 == quote) ≡ false → InQuote quote body → after_quote quote (body ++ behind) ≡ after_quote quote behind
  body_back _ behind no_mark nothing = refl
  body_back _ behind no_mark (plain a more one two three inside) = plain_back a (more ++ behind) one two three ∙ body_back more behind no_mark inside
  body_back _ behind no_mark (taken a b more one two inside) = taken_back a b (more ++ behind) one no_mark two ∙ body_back more behind no_mark inside

  quote_back : (body tail rest : List Placed) → (quote == 10) ≡ false → (92 == quote) ≡ false → InQuote quote body → EndsQuote quote tail rest
      → after_quote quote ((body ++ tail) ++ rest) ≡ rest
  quote_back body tail rest no_line no_mark inside end =
      ap (after_quote quote) (append_assoc body tail rest) ∙ body_back body (tail ++ rest) no_mark inside ∙ tail_back tail rest no_line no_mark end

-- The first part.

abbrev Begins : List Placed → List Placed → Type 0
Begins text rest = (part : List Placed) × (text ≡ part ++ rest) × IsPart part rest

some_is : (one another : List Placed) → Some one ≡ Some another → one ≡ another
some_is one another is = cc

block_found : (a : Placed) (text rest : List Placed) → begins 47 42 (a ∷ text) ≡ true → after_close (drop 1 text) ≡ Some rest → Begins (a ∷ text) rest
block_found a [] rest h is = absurd (false≢true (and_parts (a.byte == 47) false h).1)
block_found a (b ∷ text) rest h is =
    let both = and_parts (a.byte == 47) (b.byte == 42) h in
    let c = found text rest is in (
      a ∷ b ∷ (c.body ++ c.star ∷ c.slash ∷ []),
      ap (λ (t : List Placed). a ∷ b ∷ t) (c.whole ∙ sym (append_assoc c.body (c.star ∷ c.slash ∷ []) rest)),
      block a b c.star c.slash c.body (eqb-true a.byte 47 both.0) (eqb-true b.byte 42 both.1) c.is_star c.is_slash c.first refl,
    )

slashes_found : (a : Placed) (text rest : List Placed) → begins 47 47 (a ∷ text) ≡ true → after_text text ≡ rest → Begins (a ∷ text) rest
slashes_found a [] rest h is = absurd (false≢true (and_parts (a.byte == 47) false h).1)
slashes_found a (b ∷ text) rest h is =
    let both = and_parts (a.byte == 47) (b.byte == 47) h in
    let two : b.byte ≡ 47 = eqb-true b.byte 47 both.1 in
    let over : after_text (b ∷ text) ≡ after_text text = rw two refl in
    let same : after_text text ≡ rest = sym over ∙ is in
    let l = lined text in (
      a ∷ b ∷ l.body,
      ap (λ (t : List Placed). a ∷ b ∷ t) (l.whole ∙ ap (λ (t : List Placed). l.body ++ t) same),
      slashes a b l.body (eqb-true a.byte 47 both.0) two l.inside (subst AtEnd same l.end) refl,
    )

quoted_found : (a : Placed) (text rest : List Placed) → is_quote a.byte ≡ true → after_quote a.byte text ≡ rest → Begins (a ∷ text) rest
quoted_found a text rest h is =
    let f = subst (λ (r : List Placed). Quoted a.byte text r) is (quote_found a.byte text) in
    (a ∷ (f.body ++ f.tail), ap (λ (t : List Placed). a ∷ t) f.whole, quoted a f.body f.tail h f.inside f.end refl)

part_found : (text rest : List Placed) → after_part text ≡ Some rest → Begins text rest
part_found [] rest is = absurd cc
part_found (a ∷ text) rest is = by_test (Begins (a ∷ text) rest) (begins 47 42 (a ∷ text))
    (λ h. (let now : after_close (drop 1 text) ≡ Some rest = rw h at is in block_found a text rest h now))
    (λ h. by_test (Begins (a ∷ text) rest) (begins 47 47 (a ∷ text))
    (λ k. (let now : Some (after_text text) ≡ Some rest = rw (h, k) at is in slashes_found a text rest k (some_is (after_text text) rest now)))
    (λ k. by_test (Begins (a ∷ text) rest) (is_quote a.byte)
    (λ q. (let now : Some (after_quote a.byte text) ≡ Some rest = rw (h, k, q) at is in quoted_found a text rest q (some_is (after_quote a.byte text) rest now)))
    (λ q. (let now : Some text ≡ Some rest = rw (h, k, q) at is in
    let same : text ≡ rest = some_is text rest now in (
      a ∷ [],
      ap (λ (t : List Placed). a ∷ t) same,
      subst (λ (r : List Placed). IsPart (a ∷ []) r) same (other a q h k refl),
    )))))

quote_not : (q x : ℕ) → is_quote x ≡ false → is_quote q ≡ true → q ≢ x
quote_not q x out is e = false≢true (sym out ∙ ap is_quote (sym e) ∙ is)

block_back : (a b star slash : Placed) (body rest : List Placed) → a.byte ≡ 47 → b.byte ≡ 42 → star.byte ≡ 42 → slash.byte ≡ 47 → NoClose (body ++ star ∷ [])
    → after_part (a ∷ b ∷ ((body ++ star ∷ slash ∷ []) ++ rest)) ≡ Some rest
block_back a b star slash body rest one two three four none =
    rw (one, two) (ap after_close (append_assoc body (star ∷ slash ∷ []) rest) ∙ closed_back body star slash rest three four none)

slashes_back : (a b : Placed) (body rest : List Placed) → a.byte ≡ 47 → b.byte ≡ 47 → AllByRecursion (λ placed. placed.byte ≢ 10) body → AtEnd rest
    → after_part (a ∷ b ∷ (body ++ rest)) ≡ Some rest
slashes_back a b body rest one two all end = rw (one, two) (ap (λ (t : List Placed). Some t) (line_back body rest all end))

quoted_back : (mark : Placed) (body tail rest : List Placed) → is_quote mark.byte ≡ true → InQuote mark.byte body → EndsQuote mark.byte tail rest
    → after_part (mark ∷ ((body ++ tail) ++ rest)) ≡ Some rest
quoted_back mark body tail rest q inside end =
    let no_line : (mark.byte == 10) ≡ false = ne_eqb mark.byte 10 (quote_not mark.byte 10 refl q) in
    let no_backslash : (92 == mark.byte) ≡ false = ne_eqb 92 mark.byte (λ e. quote_not mark.byte 92 refl q (sym e)) in
    rw (ne_eqb mark.byte 47 (quote_not mark.byte 47 refl q), q) (ap (λ (t : List Placed). Some t) (quote_back mark.byte body tail rest no_line no_backslash inside end))

part_back : (text rest part : List Placed) → text ≡ part ++ rest → IsPart part rest → after_part text ≡ Some rest
part_back text rest part split (block a b star slash body one two three four none is) =
    ap after_part (split ∙ ap (λ (p : List Placed). p ++ rest) is) ∙ block_back a b star slash body rest one two three four none
part_back text rest part split (slashes a b body one two all end is) =
    ap after_part (split ∙ ap (λ (p : List Placed). p ++ rest) is) ∙ slashes_back a b body rest one two all end
part_back text rest part split (quoted mark body tail q inside end is) =
    ap after_part (split ∙ ap (λ (p : List Placed). p ++ rest) is) ∙ quoted_back mark body tail rest q inside end
part_back text rest part split (other a q h k is) =
    ap after_part (split ∙ ap (λ (p : List Placed). p ++ rest) is) ∙ rw (h, k, q) refl

pub part_is : (text rest : List Placed) → (after_part text ≡ Some rest) ↔ Begins text rest
part_is text rest = (part_found text rest, λ b. part_back text rest b.0 b.1 b.2)

none_found : (text : List Placed) → after_part text ≡ None → (text ≡ []) ⊎ IsOpen text
none_found [] is = inl refl
none_found (a ∷ text) is = by_test ((a ∷ text ≡ []) ⊎ IsOpen (a ∷ text)) (begins 47 42 (a ∷ text))
    (λ h. (let now : after_close (drop 1 text) ≡ None = rw h at is in inr (open_found text h now)))
    (λ h. by_test ((a ∷ text ≡ []) ⊎ IsOpen (a ∷ text)) (begins 47 47 (a ∷ text))
    (λ k. (let never : Some (after_text text) ≡ None = rw (h, k) at is in absurd cc))
    (λ k. by_test ((a ∷ text ≡ []) ⊎ IsOpen (a ∷ text)) (is_quote a.byte)
    (λ q. (let never : Some (after_quote a.byte text) ≡ None = rw (h, k, q) at is in absurd cc))
    (λ q. (let never : Some text ≡ None = rw (h, k, q) at is in absurd cc))))
  where
    open_found : (text : List Placed) → begins 47 42 (a ∷ text) ≡ true → after_close (drop 1 text) ≡ None → IsOpen (a ∷ text)
    open_found [] h is = absurd (false≢true (and_parts (a.byte == 47) false h).1)
    open_found (b ∷ text) h is =
        let both = and_parts (a.byte == 47) (b.byte == 42) h in
        (a, b, text, refl, eqb-true a.byte 47 both.0, eqb-true b.byte 42 both.1, never_found text is)

open_back : (a b : Placed) (body : List Placed) → a.byte ≡ 47 → b.byte ≡ 42 → NoClose body → after_part (a ∷ b ∷ body) ≡ None
open_back a b body one two none = rw (one, two) (never_back body none)

none_back : (text : List Placed) → (text ≡ []) ⊎ IsOpen text → after_part text ≡ None
none_back text (inl is) = ap after_part is
none_back text (inr o) = ap after_part o.3 ∙ open_back o.0 o.1 o.2 o.4 o.5 o.6

pub none_is : (text : List Placed) → (after_part text ≡ None) ↔ ((text ≡ []) ⊎ IsOpen text)
none_is text = (none_found text, none_back text)
