-- The limits of a statement, in the words of the language.
use Rattle.std.proofs.Common.{◌≡◌, ◌⊎◌, inl, inr, ◌≤◌, ◌+◌, ◌&&◌, nat_le, not, ℕ, suc, Bool, true, false, if◌then◌else◌, List, [], ◌∷◌, ◌++◌, refl, sym, ap, subst, ◌∙◌, append_assoc, arith}
use Rattle.std.proofs.lemmas.Bool.{leb-true, le-leb}
use Rattle.rz_core.proofs.Tests.{both}
use Rattle.rz_lex.specs.declared.token.Token.{Token}
use Rattle.rz_stmt_brackets.specs.Limit.{counted, depth_limit, ends_row, is_row, is_text, is_within_limits, keeps_limits, longest_row, row_behind, KeepsLimits}
use Rattle.rz_stmt_brackets.specs.Statements.{open_behind, open_behind_all}

-- how long the last row is after several tokens
abbrev rows_behind : List Token → ℕ → ℕ
rows_behind [] row = row
rows_behind (token ∷ tokens) row = rows_behind tokens (row_behind token.shape row)

rows_join : (front more : List Token) (row : ℕ) → rows_behind (front ++ more) row ≡ rows_behind more (rows_behind front row)
rows_join [] more row = refl
rows_join (token ∷ front) more row = rows_join front more (row_behind token.shape row)

-- in a row each token that is no text counts
in_a_row : (row : List Token) (n : ℕ) → is_row row ≡ true → rows_behind row n ≡ n + counted row
in_a_row [] n is = omega arith
in_a_row (token ∷ row) n is = by (ends_row token.shape) refl (is_text token.shape) refl (in_a_row row)
  where
    parts : (not (ends_row token.shape) ≡ true) × (is_row row ≡ true)
    parts = both (not (ends_row token.shape)) (is_row row) is

    by : (e : Bool) → ends_row token.shape ≡ e → (t : Bool) → is_text token.shape ≡ t
        → ((m : ℕ) → is_row row ≡ true → rows_behind row m ≡ m + counted row)
        → rows_behind row (if e then 0 else if t then n else suc n) ≡ n + (if t then counted row else suc (counted row))
    by true ends t text more = let never : true ≡ false = sym parts.0 ∙ ap not ends in cc
    by false ends true text more = more n parts.1
    by false ends false text more = more (suc n) parts.1 ∙ omega arith

-- the last row of a front: all of it, after those that stood before, or its own end
record LastRow (front : List Token) (n : ℕ) : Type 0 where
  before : List Token
  row : List Token
  are : front ≡ before ++ row
  is : is_row row ≡ true
  size : rows_behind front n ≡ counted row

last_row : (front : List Token) (n : ℕ) → LastRow front n ⊎ ((is_row front ≡ true) × (rows_behind front n ≡ n + counted front))
last_row [] n = inr (refl, omega arith)
last_row (token ∷ front) n = by (ends_row token.shape) refl (is_text token.shape) refl (last_row front 0) (last_row front n) (last_row front (suc n))
  where
    begins : (row : ℕ) → rows_behind (token ∷ front) n ≡ rows_behind front row → LastRow front row → LastRow (token ∷ front) n
    begins row same found = record {
      before = token ∷ found.before;
      row = found.row;
      are = ap (λ (ts : List Token). token ∷ ts) found.are;
      is = found.is;
      size = same ∙ found.size;
    }

    by : (e : Bool) → ends_row token.shape ≡ e → (t : Bool) → is_text token.shape ≡ t
        → LastRow front 0 ⊎ ((is_row front ≡ true) × (rows_behind front 0 ≡ 0 + counted front))
        → LastRow front n ⊎ ((is_row front ≡ true) × (rows_behind front n ≡ n + counted front))
        → LastRow front (suc n) ⊎ ((is_row front ≡ true) × (rows_behind front (suc n) ≡ suc n + counted front))
        → LastRow (token ∷ front) n ⊎ ((is_row (token ∷ front) ≡ true) × (rows_behind (token ∷ front) n ≡ n + counted (token ∷ front)))
    by true ends t text (inl found) at more = inl (begins 0 (ap (λ (b : Bool). rows_behind front (if b then 0 else if is_text token.shape then n else suc n)) ends) found)
    by true ends t text (inr whole) at more = inl (record {
      before = token ∷ [];
      row = front;
      are = refl;
      is = whole.0;
      size = ap (λ (b : Bool). rows_behind front (if b then 0 else if is_text token.shape then n else suc n)) ends ∙ whole.1 ∙ omega arith;
    })
    by false ends true text none (inl found) more =
        inl (begins n (ap (λ (b : Bool). rows_behind front (if b then 0 else if is_text token.shape then n else suc n)) ends ∙ ap (λ (b : Bool). rows_behind front (if b then n else suc n)) text) found)
    by false ends true text none (inr whole) more = inr (
      ap (λ (b : Bool). not b && is_row front) ends ∙ whole.0,
      ap (λ (b : Bool). rows_behind front (if b then 0 else if is_text token.shape then n else suc n)) ends ∙ ap (λ (b : Bool). rows_behind front (if b then n else suc n)) text
          ∙ whole.1 ∙ ap (λ (b : Bool). n + (if b then counted front else suc (counted front))) (sym text),
    )
    by false ends false text none at (inl found) =
        inl (begins (suc n) (ap (λ (b : Bool). rows_behind front (if b then 0 else if is_text token.shape then n else suc n)) ends ∙ ap (λ (b : Bool). rows_behind front (if b then n else suc n)) text) found)
    by false ends false text none at (inr whole) = inr (
      ap (λ (b : Bool). not b && is_row front) ends ∙ whole.0,
      ap (λ (b : Bool). rows_behind front (if b then 0 else if is_text token.shape then n else suc n)) ends ∙ ap (λ (b : Bool). rows_behind front (if b then n else suc n)) text
          ∙ whole.1 ∙ omega arith ∙ ap (λ (b : Bool). n + (if b then counted front else suc (counted front))) (sym text),
    )

-- Both ways.

module _ (most : ℕ) where
  goes : (depth row : ℕ) (tokens front behind : List Token) → depth ≤ most → row ≤ longest_row → keeps_limits most depth row tokens ≡ true → tokens ≡ front ++ behind
      → (open_behind_all front depth ≤ most) × (rows_behind front row ≤ longest_row)
  goes depth row tokens [] behind low short keeps are = (low, short)
  goes depth row [] (token ∷ front) behind low short keeps are = cc
  goes depth row (t ∷ ts) (token ∷ front) behind low short keeps are =
      let same : t ≡ token = cc in
      let rest : ts ≡ front ++ behind = cc in
      let tests = both (nat_le (open_behind t.shape depth) most) (nat_le (row_behind t.shape row) longest_row && keeps_limits most (open_behind t.shape depth) (row_behind t.shape row) ts) keeps in
      let more = both (nat_le (row_behind t.shape row) longest_row) (keeps_limits most (open_behind t.shape depth) (row_behind t.shape row) ts) tests.1 in
      subst (λ (x : Token). (open_behind_all front (open_behind x.shape depth) ≤ most) × (rows_behind front (row_behind x.shape row) ≤ longest_row)) same
      (goes (open_behind t.shape depth) (row_behind t.shape row) ts front behind (leb-true (open_behind t.shape depth) most tests.0) (leb-true (row_behind t.shape row) longest_row more.0) more.1 rest)

  comes : (depth row : ℕ) (tokens : List Token)
      → ((front behind : List Token) → tokens ≡ front ++ behind → (open_behind_all front depth ≤ most) × (rows_behind front row ≤ longest_row))
      → keeps_limits most depth row tokens ≡ true
  comes depth row [] all = refl
  comes depth row (t ∷ ts) all =
      let first = all (t ∷ []) ts refl in
      (λ i. le-leb (open_behind t.shape depth) most first.0 i && (le-leb (row_behind t.shape row) longest_row first.1 i && keeps_limits most (open_behind t.shape depth) (row_behind t.shape row) ts))
      ∙ comes (open_behind t.shape depth) (row_behind t.shape row) ts (λ front behind are. all (t ∷ front) behind (ap (λ (l : List Token). t ∷ l) are))

pub kept : (tokens : List Token) → is_within_limits tokens ≡ true → KeepsLimits tokens
kept tokens keeps = record {
  shallow = λ front behind are. (goes (depth_limit tokens) 0 0 tokens front behind (omega arith) (omega arith) keeps are).0;
  short = short;
}
  where
    short : (front row behind : List Token) → tokens ≡ front ++ (row ++ behind) → is_row row ≡ true → counted row ≤ longest_row
    short front row behind are is =
        let all = (goes (depth_limit tokens) 0 0 tokens (front ++ row) behind (omega arith) (omega arith) keeps (are ∙ sym (append_assoc front row behind))).1 in
        omega (arith, all, rows_join front row 0, in_a_row row (rows_behind front 0) is)

pub is_kept : (tokens : List Token) → KeepsLimits tokens → is_within_limits tokens ≡ true
is_kept tokens keeps = comes (depth_limit tokens) 0 0 tokens (λ front behind are. (keeps.shallow front behind are, by front behind are (last_row front 0)))
  where
    by : (front behind : List Token) → tokens ≡ front ++ behind → LastRow front 0 ⊎ ((is_row front ≡ true) × (rows_behind front 0 ≡ 0 + counted front))
        → rows_behind front 0 ≤ longest_row
    by front behind are (inl found) =
        omega (arith, found.size, keeps.short found.before found.row behind (are ∙ ap (λ (l : List Token). l ++ behind) found.are ∙ append_assoc found.before found.row behind) found.is)
    by front behind are (inr whole) = omega (arith, whole.1, keeps.short [] front behind are whole.0)
