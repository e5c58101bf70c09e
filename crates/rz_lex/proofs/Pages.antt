-- Lines that are cut into tokens are the logical lines of their page.
use Rattle.std.proofs.Common.{◌≡◌, ◌≢◌, ℕ, ◌+◌, Bool, true, false, List, [], ◌∷◌, ◌++◌, map, Some, None, Ok, refl, sym, ap, subst, ◌∙◌, append_assoc}
use Rattle.std.specs.Prelude.{◌==◌, ◌&&◌, ◌||◌, not}
use Rattle.std.specs.List.{AllByRecursion}
use Rattle.std.specs.Option.{is_some}
use Rattle.std.proofs.lemmas.Bool.{and_parts, and_right, or_parts, eq-eqb, eqb-true, ne_eqb, false≢true, not-true}
use Rattle.std.specs.List.{flat_map}
use Rattle.std.proofs.lemmas.List.{map-append}
use Rattle.std.proofs.lemmas.List.Concat.{flat_map-cons}
use Rattle.std.specs.declared.result.Result.{Result}
use Rattle.rz_core.specs.declared.fault.Fault.{Fault}
use Rattle.rz_core.specs.declared.fault.Mark.{Mark}
use Rattle.rz_lex.specs.Classes.{is_blank, is_hex_digit, is_letter, is_quote, is_word_byte}
use Rattle.rz_lex.specs.Cover.{bytes_of, text_of}
use Rattle.rz_lex.specs.Cover as cover
use Rattle.rz_lex.specs.Cutting.{after_blanks, Leads}
use Rattle.rz_lex.specs.Extent.{are_word_bytes, closes, closes_behind, ends_dollar, ends_dollar_word, is_empty, is_lexeme}
use Rattle.rz_lex.specs.Joined.{continued, is_at, joined, numbered, with_feeds}
use Rattle.rz_lex.specs.Lines.{mark_of, HasLines}
use Rattle.rz_lex.specs.Page.{has_slash, is_slash, lines_from, page, AreInLine, StandsOnPage}
use Rattle.rz_lex.specs.Shape.{shape_of}
use Rattle.rz_lex.specs.Sign.{is_sign, sign_of_one, sign_of_two}
use Rattle.rz_lex.specs.declared.joined.Placed.{Placed}
use Rattle.rz_lex.specs.declared.sign.Sign.TheVariants.{Slash}
use Rattle.rz_lex.specs.declared.token.Shape.{Shape}
use Rattle.rz_lex.specs.declared.token.Shape.TheVariants as shapes
use Rattle.rz_lex.specs.declared.token.Token.{Token}
use Rattle.rz_core.proofs.Tests.{by_test}
use Rattle.rz_lex.proofs.OneLine.{line_here, none_so_far, LineSoFar}

-- A clean line: single bytes, none of which begins a comment or a quoted part or is a backslash, and quoted parts.

abbrev is_single : ℕ → Bool
is_single byte = not (byte == 34 || (byte == 39 || (byte == 47 || byte == 92)))

-- the bytes end in their first such quote mark
data Closed (quote : ℕ) : List ℕ → Type 0 where
  last : Closed quote (quote ∷ [])
  taken : {bytes : List ℕ} (byte : ℕ) → (92 == quote) ≡ false → Closed quote bytes → Closed quote (92 ∷ byte ∷ bytes)
  plain : {bytes : List ℕ} (byte : ℕ) → (byte == quote) ≡ false → (byte == 92) ≡ false → Closed quote bytes → Closed quote (byte ∷ bytes)

data Clean : List ℕ → Type 0 where
  nothing : Clean []
  single : {bytes : List ℕ} (byte : ℕ) → is_single byte ≡ true → Clean bytes → Clean (byte ∷ bytes)
  part : {bytes : List ℕ} (quote : ℕ) (inside : List ℕ) → is_quote quote ≡ true → Closed quote inside → Clean bytes → Clean (quote ∷ (inside ++ bytes))

-- From a lexeme to a clean line.

-- a byte of which a test says what it says of no other
differs : (test : ℕ → Bool) (byte other : ℕ) → test byte ≡ true → test other ≡ false → (byte == other) ≡ false
differs test byte other holds fails = ne_eqb byte other (λ e. false≢true (sym fails ∙ ap test (sym e) ∙ holds))

single_by : (test : ℕ → Bool) (byte : ℕ) → test byte ≡ true → test 34 ≡ false → test 39 ≡ false → test 47 ≡ false → test 92 ≡ false → is_single byte ≡ true
single_by test byte holds a b c d = rw (differs test byte 34 holds a, differs test byte 39 holds b, differs test byte 47 holds c, differs test byte 92 holds d) refl

clean_run : (run after : List ℕ) → are_word_bytes run ≡ true → Clean after → Clean (run ++ after)
clean_run [] after all clean = clean
clean_run (b ∷ run) after all clean =
    let parts = and_parts (is_word_byte b) (are_word_bytes run) all in
    single b (single_by is_word_byte b parts.0 refl refl refl refl) (clean_run run after parts.1 clean)

clean_blanks : (line : List ℕ) → Clean (after_blanks line) → Clean line
clean_blanks [] clean = nothing
clean_blanks (b ∷ line) clean = by_test (Clean (b ∷ line)) (is_blank b)
    (λ h. single b (single_by is_blank b h refl refl refl refl) (clean_blanks line (rw h at clean)))
    (λ h. rw h at clean)

nothing_left : (bytes : List ℕ) → is_empty bytes ≡ true → bytes ≡ []
nothing_left [] h = refl
nothing_left (b ∷ bytes) h = absurd (false≢true h)

mutual
  closed : (quote : ℕ) (bytes : List ℕ) → (92 == quote) ≡ false → closes quote bytes ≡ true → Closed quote bytes
  closed quote [] slash h = absurd (false≢true h)
  closed quote (b ∷ bytes) slash h = by_test (Closed quote (b ∷ bytes)) (b == quote)
      (λ e. let alone : is_empty bytes ≡ true = rw e at h in
      subst (λ (x : ℕ). Closed quote (x ∷ bytes)) (sym (eqb-true b quote e)) (subst (λ (x : List ℕ). Closed quote (quote ∷ x)) (sym (nothing_left bytes alone)) last))
      (λ e. by_test (Closed quote (b ∷ bytes)) (b == 92)
      (λ f. let behind : closes_behind quote bytes ≡ true = rw (e, f) at h in
      subst (λ (x : ℕ). Closed quote (x ∷ bytes)) (sym (eqb-true b 92 f)) (closed_behind quote bytes slash behind))
      (λ f. let more : closes quote bytes ≡ true = rw (e, f) at h in plain b e f (closed quote bytes slash more)))

  closed_behind : (quote : ℕ) (bytes : List ℕ) → (92 == quote) ≡ false → closes_behind quote bytes ≡ true → Closed quote (92 ∷ bytes)
  closed_behind quote [] slash h = absurd (false≢true h)
  closed_behind quote (b ∷ bytes) slash h = taken b slash (closed quote bytes slash h)

no_slash : (quote : ℕ) → is_quote quote ≡ true → (92 == quote) ≡ false
no_slash quote h = ne_eqb 92 quote (λ e. false≢true (ap is_quote e ∙ h))

-- a sign other than a slash

single_sign : (a : ℕ) → is_some (sign_of_one a) ≡ true → (a == 47) ≡ false → is_single a ≡ true
single_sign a is other = rw (differs (λ x. is_some (sign_of_one x)) a 34 is refl, differs (λ x. is_some (sign_of_one x)) a 39 is refl, other, differs (λ x. is_some (sign_of_one x)) a 92 is refl) refl

first_of_two : (a b : ℕ) → is_some (sign_of_two a b) ≡ true → is_single a ≡ true
first_of_two a b is = single_by (λ x. is_some (sign_of_two x b)) a is (none 34 refl refl refl refl refl refl b) (none 39 refl refl refl refl refl refl b) (none 47 refl refl refl refl refl refl b) (none 92 refl refl refl refl refl refl b)
  where
    none : (x : ℕ) → (x == 60) ≡ false → (x == 62) ≡ false → (x == 61) ≡ false → (x == 33) ≡ false → (x == 38) ≡ false → (x == 124) ≡ false → (b : ℕ) → is_some (sign_of_two x b) ≡ false
    none x p q r s t u b = by_test (is_some (sign_of_two x b) ≡ false) (b == 61)
        (λ h. rw (h, p, q, r, s) refl)
        (λ h. by_test (is_some (sign_of_two x b) ≡ false) (x == b) (λ k. rw (h, k, p, q, t, u) refl) (λ k. rw (h, k) refl))

second_of_two : (a b : ℕ) → is_some (sign_of_two a b) ≡ true → is_single b ≡ true
second_of_two a b is = single_by (λ y. is_some (sign_of_two a y)) b is (none 34 refl refl refl refl refl) (none 39 refl refl refl refl refl) (none 47 refl refl refl refl refl) (none 92 refl refl refl refl refl)
  where
    none : (y : ℕ) → (y == 61) ≡ false → (y == 60) ≡ false → (y == 62) ≡ false → (y == 38) ≡ false → (y == 124) ≡ false → is_some (sign_of_two a y) ≡ false
    none y p q r s t = by_test (is_some (sign_of_two a y) ≡ false) (a == y)
        (λ h. let same : a ≡ y = eqb-true a y h in rw (p, h, ap (λ x. x == 60) same ∙ q, ap (λ x. x == 62) same ∙ r, ap (λ x. x == 38) same ∙ s, ap (λ x. x == 124) same ∙ t) refl)
        (λ h. rw (p, h) refl)

clean_sign : (sign after : List ℕ) → is_sign sign ≡ true → sign ≢ 47 ∷ [] → Clean after → Clean (sign ++ after)
clean_sign [] after is bare clean = clean
clean_sign (a ∷ []) after is bare clean = single a (single_sign a is (ne_eqb a 47 (λ e. bare (ap (λ (x : ℕ). x ∷ []) e)))) clean
clean_sign (a ∷ b ∷ []) after is bare clean = single a (first_of_two a b is) (single b (second_of_two a b is) clean)
clean_sign (a ∷ b ∷ c ∷ bs) after is bare clean = absurd (false≢true is)

clean_dollar : (lexeme after : List ℕ) → ends_dollar lexeme ≡ true → Clean after → Clean (36 ∷ (lexeme ++ after))
clean_dollar [] after is clean = absurd (false≢true is)
clean_dollar (b ∷ bs) after is clean = by_test (Clean (36 ∷ ((b ∷ bs) ++ after))) (is_hex_digit b)
    (λ h. let all : are_word_bytes bs ≡ true = rw h at is in single 36 refl (single b (single_by is_hex_digit b h refl refl refl refl) (clean_run bs after all clean)))
    (λ h. by_test (Clean (36 ∷ ((b ∷ bs) ++ after))) (b == 34)
    (λ k. let ends : closes 34 bs ≡ true = rw (h, k) at is in single 36 refl (subst (λ (x : ℕ). Clean (x ∷ (bs ++ after))) (sym (eqb-true b 34 k)) (part 34 bs refl (closed 34 bs refl ends) clean)))
    (λ k. by_test (Clean (36 ∷ ((b ∷ bs) ++ after))) (b == 36)
    (λ l. let word : ends_dollar_word bs ≡ true = rw (h, k, l) at is in single 36 refl (subst (λ (x : ℕ). Clean (x ∷ (bs ++ after))) (sym (eqb-true b 36 l)) (single 36 refl (clean_word bs word))))
    (λ l. absurd (false≢true (rw (h, k, l) at is)))))
  where
    clean_word : (bs : List ℕ) → ends_dollar_word bs ≡ true → Clean (bs ++ after)
    clean_word [] is = absurd (false≢true is)
    clean_word (b ∷ bs) is = let parts = and_parts (is_letter b) (are_word_bytes bs) is in single b (single_by is_letter b parts.0 refl refl refl refl) (clean_run bs after parts.1 clean)

clean_lexeme : (lexeme after : List ℕ) → is_lexeme lexeme ≡ true → lexeme ≢ 47 ∷ [] → Clean after → Clean (lexeme ++ after)
clean_lexeme [] after is bare clean = absurd (false≢true is)
clean_lexeme (b ∷ bs) after is bare clean = by_test (Clean ((b ∷ bs) ++ after)) (is_word_byte b)
    (λ h. let all : are_word_bytes bs ≡ true = rw h at is in single b (single_by is_word_byte b h refl refl refl refl) (clean_run bs after all clean))
    (λ h. by_test (Clean ((b ∷ bs) ++ after)) (is_quote b)
    (λ k. let ends : closes b bs ≡ true = rw (h, k) at is in part b bs k (closed b bs (no_slash b k) ends) clean)
    (λ k. by_test (Clean ((b ∷ bs) ++ after)) (b == 36)
    (λ l. let rest : ends_dollar bs ≡ true = rw (h, k, l) at is in subst (λ (x : ℕ). Clean (x ∷ (bs ++ after))) (sym (eqb-true b 36 l)) (clean_dollar bs after rest clean))
    (λ l. let sign : is_sign (b ∷ bs) ≡ true = rw (h, k, l) at is in clean_sign (b ∷ bs) after sign bare clean)))

same_shape : (a b : Shape) → ◌≡◌ {A = Result Shape Fault} (Ok a) (Ok b) → a ≡ b
same_shape a b e = cc

no_slash_is : (mark : Mark) (lexeme : List ℕ) (token : Token) → shape_of mark lexeme ≡ Ok token.shape → is_slash token.shape ≡ false → lexeme ≢ 47 ∷ []
no_slash_is mark lexeme token shape bare e =
    let same : token.shape ≡ shapes.Sign Slash = same_shape token.shape (shapes.Sign Slash) (sym shape ∙ ap (shape_of mark) e) in
    false≢true (sym bare ∙ ap is_slash same)

clean_line : (mark : Mark) (line rest : List ℕ) (tokens : List Token) → Leads mark line tokens rest → after_blanks rest ≡ [] → has_slash tokens ≡ false → Clean line
clean_line mark line rest [] leads ends bare = clean_blanks line (subst Clean (sym (ap after_blanks leads ∙ ends)) nothing)
clean_line mark line rest (token ∷ tokens) leads ends bare =
    let parts = or_parts (is_slash token.shape) (has_slash tokens) bare in
    let next = leads.1 in
    let behind = clean_line mark leads.0 rest tokens leads.2 ends parts.1 in
    clean_blanks line (subst Clean (sym next.longest.whole)
    (clean_lexeme next.lexeme leads.0 next.longest.passes (no_slash_is mark next.lexeme token next.shape parts.0) behind))

-- From a clean line to its parts.

-- bytes on one physical line
abbrev placed : ℕ → List ℕ → List Placed
placed line bytes = map (λ byte. record { byte = byte; line = line }) bytes

abbrev feed : ℕ → Placed
feed line = record { byte = 10; line = line }

module _ (n : ℕ) where
  -- what stands after a quoted part
  quote_on : (quote : ℕ) (inside : List ℕ) (more : List Placed) → Closed quote inside → AreInLine inside → cover.after_quote quote (placed n inside ++ more) ≡ more
  quote_on quote _ more last in_line = rw (ne_eqb quote 10 in_line.0.0, eq-eqb quote quote refl) refl
  quote_on quote _ more (taken byte slash ends) in_line = rw (slash, ne_eqb byte 10 in_line.1.0.0) (quote_on quote _ more ends in_line.1.1)
  quote_on quote _ more (plain byte other bare ends) in_line = rw (ne_eqb byte 10 in_line.0.0, other, bare) (quote_on quote _ more ends in_line.1)

  -- no line end stands at the front of a quoted part
  at_end : (quote : ℕ) (inside : List ℕ) (more : List Placed) → Closed quote inside → AreInLine inside → is_at 10 (placed n inside ++ more) ≡ false
  at_end quote _ more last in_line = ne_eqb quote 10 in_line.0.0
  at_end quote _ more (taken byte slash ends) in_line = refl
  at_end quote _ more (plain byte other bare ends) in_line = ne_eqb byte 10 in_line.0.0

  -- no line end is joined inside a line
  quote_continued : (quote : ℕ) (inside : List ℕ) (more : List Placed) → (quote == 92) ≡ false → Closed quote inside → AreInLine inside
      → continued (placed n inside ++ more) ≡ placed n inside ++ continued more
  quote_continued quote _ more slash last in_line = rw slash refl
  quote_continued quote _ more slash (taken {bytes} byte other ends) in_line =
      let stays : (byte == 92 && is_at 10 (placed n bytes ++ more)) ≡ false = and_right (byte == 92) _ (at_end quote bytes more ends in_line.1.1) in
      rw (ne_eqb byte 10 in_line.1.0.0, stays) (ap (λ (x : List Placed). record { byte = 92; line = n } ∷ record { byte = byte; line = n } ∷ x) (quote_continued quote bytes more slash ends in_line.1.1))
  quote_continued quote _ more slash (plain {bytes} byte other bare ends) in_line =
      rw bare (ap (λ (x : List Placed). record { byte = byte; line = n } ∷ x) (quote_continued quote bytes more slash ends in_line.1))

  split : (front back : List ℕ) (more : List Placed) → placed n (front ++ back) ++ more ≡ placed n front ++ (placed n back ++ more)
  split front back more = ap (λ (x : List Placed). x ++ more) (map-append (λ (byte : ℕ). record { byte = byte; line = n }) front back) ∙ append_assoc (placed n front) (placed n back) more

  front_in_line : (front back : List ℕ) → AreInLine (front ++ back) → AreInLine front × AreInLine back
  front_in_line [] back in_line = (tt, in_line)
  front_in_line (b ∷ front) back in_line = let rest = front_in_line front back in_line.1 in ((in_line.0, rest.0), rest.1)

  is_bare : (byte : ℕ) → is_single byte ≡ true → ((byte == 34) ≡ false) × ((byte == 39) ≡ false) × ((byte == 47) ≡ false) × ((byte == 92) ≡ false)
  is_bare byte h =
      let none = not-true (byte == 34 || (byte == 39 || (byte == 47 || byte == 92))) h in
      let a = or_parts (byte == 34) (byte == 39 || (byte == 47 || byte == 92)) none in
      let b = or_parts (byte == 39) (byte == 47 || byte == 92) a.1 in
      let c = or_parts (byte == 47) (byte == 92) b.1 in
      (a.0, b.0, c.0, c.1)

  clean_continued : (line : List ℕ) (more : List Placed) → Clean line → AreInLine line → continued (placed n line ++ more) ≡ placed n line ++ continued more
  clean_continued _ more nothing in_line = refl
  clean_continued _ more (single {bytes} byte bare clean) in_line =
      rw ((is_bare byte bare).3) (ap (λ (x : List Placed). record { byte = byte; line = n } ∷ x) (clean_continued bytes more clean in_line.1))
  clean_continued _ more (part {bytes} quote inside is ends clean) in_line =
      let parts = front_in_line inside bytes in_line.1 in
      rw (differs is_quote quote 92 is refl) (ap (λ (x : List Placed). record { byte = quote; line = n } ∷ x)
      (ap continued (split inside bytes more) ∙ quote_continued quote inside (placed n bytes ++ more) (differs is_quote quote 92 is refl) ends parts.0
      ∙ ap (λ (x : List Placed). placed n inside ++ x) (clean_continued bytes more clean parts.1) ∙ sym (split inside bytes (continued more))))

  bytes_again : (bytes : List ℕ) → bytes_of (placed n bytes) ≡ bytes
  bytes_again [] = refl
  bytes_again (b ∷ bytes) = ap (λ (x : List ℕ). b ∷ x) (bytes_again bytes)

  -- the parts of a clean line, whatever stands after it
  line_parts : (line : List ℕ) (more : List Placed) → Clean line → AreInLine line → LineSoFar (placed n line ++ more) more line
  line_parts _ more nothing in_line = none_so_far more
  line_parts _ more (single {bytes} byte bare clean) in_line =
      let behind = line_parts bytes more clean in_line.1 in
      let one = is_bare byte bare in
      let here : List Placed = record { byte = byte; line = n } ∷ [] in
      record {
        parts = here ∷ behind.parts;
        taken = (placed n bytes ++ more, refl, rw (one.0, one.1, one.2) refl, behind.taken);
        inside = ((ne_eqb byte 10 in_line.0.0, λ e. cc), behind.inside);
        left = ap (λ (x : List ℕ). byte ∷ x) behind.left ∙ rw one.2 refl ∙ sym (flat_map-cons text_of here behind.parts);
      }
  line_parts _ more (part {bytes} quote inside is ends clean) in_line =
      let apart = front_in_line inside bytes in_line.1 in
      let behind = line_parts bytes more clean apart.1 in
      let here : List Placed = record { byte = quote; line = n } ∷ placed n inside in
      let slash = differs is_quote quote 47 is refl in
      record {
        parts = here ∷ behind.parts;
        taken = (
          placed n bytes ++ more,
          ap (λ (x : List Placed). record { byte = quote; line = n } ∷ x) (split inside bytes more),
          rw (slash, is) (ap (λ (x : List Placed). Some x) (ap (cover.after_quote quote) (split inside bytes more) ∙ quote_on quote inside (placed n bytes ++ more) ends apart.0)),
          behind.taken,
        );
        inside = ((ne_eqb quote 10 in_line.0.0, λ e. cc), behind.inside);
        left = ap (λ (x : List ℕ). quote ∷ (inside ++ x)) behind.left ∙ ap (λ (x : List ℕ). quote ∷ (x ++ flat_map text_of behind.parts)) (sym (bytes_again inside))
            ∙ rw slash refl ∙ sym (flat_map-cons text_of here behind.parts);
      }

-- The joined text of a page.

fed : (line rest : List ℕ) → AreInLine line → with_feeds (line ++ 10 ∷ rest) ≡ line ++ 10 ∷ with_feeds rest
fed [] rest in_line = refl
fed (b ∷ line) rest in_line = rw (ne_eqb b 13 in_line.0.1) (ap (λ (x : List ℕ). b ∷ x) (fed line rest in_line.1))

numbered_line : (n : ℕ) (line rest : List ℕ) → AreInLine line → numbered n (line ++ 10 ∷ rest) ≡ placed n line ++ feed n ∷ numbered (n + 1) rest
numbered_line n [] rest in_line = refl
numbered_line n (b ∷ line) rest in_line = rw (ne_eqb b 10 in_line.0.0) (ap (λ (x : List Placed). record { byte = b; line = n } ∷ x) (numbered_line n line rest in_line.1))

joined_line : (n : ℕ) (line rest : List ℕ) → Clean line → AreInLine line → joined n (line ++ 10 ∷ rest) ≡ placed n line ++ feed n ∷ joined (n + 1) rest
joined_line n line rest clean in_line =
    ap (λ (x : List ℕ). continued (numbered n x)) (fed line rest in_line)
    ∙ ap continued (numbered_line n line (with_feeds rest) in_line)
    ∙ clean_continued n line (feed n ∷ numbered (n + 1) (with_feeds rest)) clean in_line

first_mark : (file n : ℕ) (line : List ℕ) (rest : List Placed) → record { file = file; line = n } ≡ mark_of file (placed n line ++ feed n ∷ rest)
first_mark file n [] rest = refl
first_mark file n (b ∷ line) rest = refl

pub page_lines : (file first : ℕ) (lines : List (List ℕ)) → AllByRecursion StandsOnPage lines → HasLines file (joined first (page lines)) (lines_from file first lines) None
page_lines file first [] all = record { parts = []; cover = refl; are = refl }
page_lines file first (line ∷ lines) all =
    let clean = clean_line all.0.mark line all.0.cut.0 all.0.tokens all.0.cut.1 all.0.cut.2 all.0.bare in
    let behind = joined (first + 1) (page lines) in
    subst (λ (x : List Placed). HasLines file x (lines_from file first (line ∷ lines)) None) (sym (joined_line first line (page lines) clean all.0.inside))
    (line_here file (placed first line ++ feed first ∷ behind) (feed first ∷ behind) behind line (feed first) (record { file = file; line = first })
    (line_parts first line (feed first ∷ behind) clean all.0.inside) refl refl (first_mark file first line behind)
    (lines_from file (first + 1) lines) None (page_lines file (first + 1) lines all.1))
