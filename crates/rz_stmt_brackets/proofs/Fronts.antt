-- A front of tokens, one token more at a time.
use Rattle.std.proofs.Common.{◌≡◌, ℕ, zero, suc, ◌+◌, Bool, true, false, ◌||◌, List, [], ◌∷◌, ◌++◌, length, take, drop, refl, sym, ap, subst, ◌∙◌, append_assoc, arith}
use Rattle.std.proofs.lemmas.List.{nil_from_length}
use Rattle.rz_lex.specs.declared.token.Token.{Token}
use Rattle.rz_stmt_brackets.specs.Pieces.{divides_at, has_divider, more, AreCut, IsParted, Parted}
use Rattle.rz_stmt_brackets.specs.Statements.{open_behind, open_behind_all}
use Rattle.rz_stmt_brackets.specs.declared.pieces.Divider.{Divider}

next_front : (n : ℕ) (piece behind : List Token) (first : Token) → drop n piece ≡ first ∷ behind
    → (take (suc n) piece ≡ take n piece ++ first ∷ []) × (drop (suc n) piece ≡ behind)
next_front zero [] behind first is = absurd cc
next_front zero (x ∷ xs) behind first is = (ap (λ (t : Token). t ∷ []) (same x first xs behind is).0, (same x first xs behind is).1)
  where
    same : (x first : Token) (xs behind : List Token) → x ∷ xs ≡ first ∷ behind → (x ≡ first) × (xs ≡ behind)
    same x first xs behind is = (cc, cc)
next_front (suc n) [] behind first is = absurd cc
next_front (suc n) (x ∷ xs) behind first is = let more = next_front n xs behind first is in (ap (λ (l : List Token). x ∷ l) more.0, more.1)

pub grows : (n : ℕ) (piece behind : List Token) (first : Token) → drop n piece ≡ first ∷ behind
    → (take (n + 1) piece ≡ take n piece ++ first ∷ []) × (drop (n + 1) piece ≡ behind)
grows n piece behind first is =
    let one : n + 1 ≡ suc n = omega arith in
    let more = next_front n piece behind first is in
    (ap (λ i. take i piece) one ∙ more.0, ap (λ i. drop i piece) one ∙ more.1)

pub open_more : (front : List Token) (token : Token) (depth : ℕ) → open_behind_all (front ++ token ∷ []) depth ≡ open_behind token.shape (open_behind_all front depth)
open_more [] token depth = refl
open_more (first ∷ front) token depth = open_more front token (open_behind first.shape depth)

pub none_more : (divider : Divider) (depth : ℕ) (front : List Token) (token : Token) → has_divider divider depth front ≡ false
    → divides_at divider (open_behind_all front depth) token ≡ false → has_divider divider depth (front ++ token ∷ []) ≡ false
none_more divider depth [] token none here = ap (λ (b : Bool). b || false) here
none_more divider depth (first ∷ front) token none here =
    by (divides_at divider depth first) none (λ rest. none_more divider (open_behind first.shape depth) front token rest here)
  where
    by : (b : Bool) → (b || has_divider divider (open_behind first.shape depth) front) ≡ false
        → (has_divider divider (open_behind first.shape depth) front ≡ false → has_divider divider (open_behind first.shape depth) (front ++ token ∷ []) ≡ false)
        → (b || has_divider divider (open_behind first.shape depth) (front ++ token ∷ [])) ≡ false
    by true wrong onward = wrong
    by false rest onward = onward rest

pub all_taken : (n : ℕ) (tokens : List Token) → drop n tokens ≡ [] → take n tokens ≡ tokens
all_taken zero [] is = refl
all_taken zero (t ∷ ts) is = cc
all_taken (suc n) [] is = refl
all_taken (suc n) (t ∷ ts) is = ap (λ (l : List Token). t ∷ l) (all_taken n ts is)

pub taken_dropped : (n : ℕ) (tokens : List Token) → tokens ≡ take n tokens ++ drop n tokens
taken_dropped zero tokens = refl
taken_dropped (suc n) [] = refl
taken_dropped (suc n) (t ∷ ts) = ap (λ (l : List Token). t ∷ l) (taken_dropped n ts)

pub parted_here : (divider : Divider) (tokens front rest behind : List Token) (first : Token) (size depth : ℕ) → front ≡ take size tokens → drop size tokens ≡ rest
    → rest ≡ first ∷ behind → has_divider divider 0 (take size tokens) ≡ false → depth ≡ open_behind_all (take size tokens) 0 → divides_at divider depth first ≡ true
    → IsParted divider tokens (record { front = front; behind = behind })
parted_here divider tokens front rest behind first size depth is_front is_rest are none deep here = record {
  sign = first;
  are = taken_dropped size tokens ∙ (λ i. sym is_front i ++ (is_rest ∙ are) i);
  first = ap (has_divider divider 0) is_front ∙ none;
  divides = ap (λ (n : ℕ). divides_at divider n first) (ap (λ (ts : List Token). open_behind_all ts 0) is_front ∙ sym deep) ∙ here;
}

pub none_left : (divider : Divider) (tokens rest : List Token) (size : ℕ) → drop size tokens ≡ rest → length rest ≡ 0 → has_divider divider 0 (take size tokens) ≡ false
    → has_divider divider 0 tokens ≡ false
none_left divider tokens rest size is none holds =
    ap (has_divider divider 0) (sym (all_taken size tokens (is ∙ nil_from_length rest none))) ∙ holds

-- a piece more before those that follow
pub cut_more : (divider : Divider) (tokens rest : List Token) (before after : List (List Token)) (parted : Parted)
    → ((more : List (List Token)) → AreCut divider rest more → AreCut divider tokens (before ++ more)) → IsParted divider rest parted → after ≡ before ++ parted.front ∷ []
    → (others : List (List Token)) → AreCut divider parted.behind others → AreCut divider tokens (after ++ others)
cut_more divider tokens rest before after parted so_far is pushed others cut =
    subst (AreCut divider tokens) (sym (append_assoc before (parted.front ∷ []) others) ∙ ap (λ (l : List (List Token)). l ++ others) (sym pushed))
    (so_far (parted.front ∷ others) (more rest parted others is cut))
