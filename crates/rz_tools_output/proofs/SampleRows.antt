-- Rows and statements of a sample, one more at the end, and what is written of them.
use Rattle.std.proofs.Common.{◌≡◌, ℕ, ◌+◌, ◌<◌, ◌≤◌, suc, zero, List, [], ◌∷◌, ◌++◌, sym, ap, ◌∙◌, append_assoc, append-nil, arith, length}
use Rattle.std.specs.Prelude.{codes, map}
use Rattle.std.specs.List.{flat_map, range_with_len}
use Rattle.std.proofs.lemmas.Grind.{flat_map-append}
use Rattle.std.proofs.lemmas.List.FromFn.{map-range_with_len_more}
use Rattle.rz_tools_output.specs.SampleSource.{number_line, rows_text, sample_lines}

range_more : (a n j : ℕ) → a + n ≡ j → range_with_len a (suc n) ≡ range_with_len a n ++ j ∷ []
range_more a zero j e = let at : a ≡ j = omega arith in ap (λ x. x ∷ []) at
range_more a (suc n) j e = let at : a + 1 + n ≡ j = omega arith in ap (λ xs. a ∷ xs) (range_more (a + 1) n j at)

-- what is made of each number below one more
pub each_more : (f : ℕ → List ℕ) (n : ℕ) → flat_map f (range_with_len 0 (n + 1)) ≡ flat_map f (range_with_len 0 n) ++ f n
each_more f n =
    let on : n + 1 ≡ suc n = omega arith in
    let at : 0 + n ≡ n = omega arith in
    ap (λ k. flat_map f (range_with_len 0 k)) on ∙ ap (flat_map f) (range_more 0 n n at)
    ∙ flat_map-append f (range_with_len 0 n) (n ∷ []) ∙ ap (λ xs. flat_map f (range_with_len 0 n) ++ xs) (append-nil (f n))

-- a row after others
row_behind : (row : List ℕ) (rows : List (List ℕ)) (last : List ℕ)
    → rows_text (row ∷ (rows ++ last ∷ [])) ≡ rows_text (row ∷ rows) ++ (codes ", " ++ last)
row_behind row rows last =
    ap (λ xs. row ++ xs) (flat_map-append (λ (next : List ℕ). codes ", " ++ next) rows (last ∷ []) ∙ ap (λ xs. flat_map (λ (next : List ℕ). codes ", " ++ next) rows ++ xs) (append-nil (codes ", " ++ last)))
    ∙ sym (append_assoc row (flat_map (λ (next : List ℕ). codes ", " ++ next) rows) (codes ", " ++ last))

next_row : (f : ℕ → List ℕ) (n : ℕ) → 0 < n → rows_text (map f (range_with_len 0 (n + 1))) ≡ rows_text (map f (range_with_len 0 n)) ++ (codes ", " ++ f n)
next_row f zero lt = absurd (omega arith)
next_row f (suc n) lt =
    let at : 0 + suc n ≡ suc n = omega arith in
    ap rows_text (map-range_with_len_more f 0 (suc n) (suc n) at) ∙ row_behind (f 0) (map f (range_with_len 1 n)) (f (suc n))

-- Written after what stood there.

pub first_written : (f : ℕ → List ℕ) (start into new : List ℕ) (n : ℕ) → n ≤ 0
    → into ≡ start ++ rows_text (map f (range_with_len 0 n)) → new ≡ into ++ f n → new ≡ start ++ rows_text (map f (range_with_len 0 (n + 1)))
first_written f start into new zero lt so end =
    end ∙ ap (λ l. l ++ f 0) (so ∙ append-nil start) ∙ ap (λ l. start ++ l) (sym (append-nil (f 0)))
first_written f start into new (suc n) lt so end = absurd (omega arith)

pub next_written : (f : ℕ → List ℕ) (start into comma new : List ℕ) (n : ℕ) → 0 < n
    → into ≡ start ++ rows_text (map f (range_with_len 0 n)) → comma ≡ into ++ codes ", " → new ≡ comma ++ f n
    → new ≡ start ++ rows_text (map f (range_with_len 0 (n + 1)))
next_written f start into comma new n lt so mid end =
    let rows : List ℕ = rows_text (map f (range_with_len 0 n)) in
    end ∙ ap (λ l. l ++ f n) (mid ∙ ap (λ l. l ++ codes ", ") so)
    ∙ append_assoc (start ++ rows) (codes ", ") (f n) ∙ append_assoc start rows (codes ", " ++ f n) ∙ ap (λ l. start ++ l) (sym (next_row f n lt))

-- five pieces
pub five_written : (start a b c d e first second third fourth new : List ℕ)
    → first ≡ start ++ a → second ≡ first ++ b → third ≡ second ++ c → fourth ≡ third ++ d → new ≡ fourth ++ e
    → new ≡ start ++ (a ++ b ++ c ++ d ++ e)
five_written start a b c d e first second third fourth new one two three four end =
    end ∙ ap (λ l. l ++ e) (four ∙ ap (λ l. l ++ d) (three ∙ ap (λ l. l ++ c) (two ∙ ap (λ l. l ++ b) one))) ∙ simp append_assoc

-- the four lines, one after the other
pub lines_written : (count counted : ℕ) (fork text again none first second third all : List ℕ) → none ≡ [] → counted ≡ count
    → first ≡ none ++ number_line (codes "resources ") counted → second ≡ first ++ number_line (codes "fork ") (length fork)
    → third ≡ second ++ number_line (codes "text ") (length text) → all ≡ third ++ number_line (codes "again ") (length again)
    → all ≡ sample_lines count fork text again
unfolding sample_lines
lines_written count counted fork text again none first second third all empty same one two three four =
    four ∙ ap (λ l. l ++ number_line (codes "again ") (length again))
    (three ∙ ap (λ l. l ++ number_line (codes "text ") (length text))
    (two ∙ ap (λ l. l ++ number_line (codes "fork ") (length fork))
    (one ∙ ap (λ l. l ++ number_line (codes "resources ") counted) empty ∙ ap (λ (n : ℕ). number_line (codes "resources ") n) same)))
