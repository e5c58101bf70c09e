-- Patterns of slices of tokens.
use Rattle.std.proofs.Common.{◌≡◌, ◌≤◌, ◌<◌, ◌-◌, ℕ, List, [], ◌∷◌, drop, get_or, length, take, sym, ap, ◌∙◌, arith}
use Rattle.std.proofs.lemmas.List.{length-drop, take_all}
use Rattle.rz_lex.specs.declared.token.Token.{Token}

-- what stands after the first so many, as a pattern has it
abbrev pub behind_of : ℕ → List Token → List Token
behind_of n tokens = take (length tokens - n) (drop n tokens)

pub all_behind : (n : ℕ) (tokens : List Token) → behind_of n tokens ≡ drop n tokens
all_behind n tokens = take_all (length tokens - n) (drop n tokens) (omega (arith, length-drop n tokens))

pub two : (tokens : List Token) (a b : Token) → 2 ≤ length tokens → a ≡ get_or tokens 0 a → b ≡ get_or tokens 1 b → tokens ≡ a ∷ b ∷ behind_of 2 tokens
two [] a b long is_a is_b = absurd (omega (arith, long))
two (x ∷ []) a b long is_a is_b = absurd (omega (arith, long))
two (x ∷ y ∷ rest) a b long is_a is_b = (λ i. sym is_a i ∷ sym is_b i ∷ rest) ∙ ap (λ (ts : List Token). a ∷ b ∷ ts) (sym (all_behind 2 (x ∷ y ∷ rest)))

pub only_one : {A : Type 0} (xs : List A) (a : A) → 1 ≤ length xs → length xs < 2 → a ≡ get_or xs 0 a → xs ≡ a ∷ []
only_one [] a some few is = absurd (omega (arith, some))
only_one (x ∷ []) a some few is = λ i. sym is i ∷ []
only_one (x ∷ y ∷ xs) a some few is = absurd (omega (arith, few))

pub only_two : {A : Type 0} (xs : List A) (a b : A) → 2 ≤ length xs → length xs < 3 → a ≡ get_or xs 0 a → b ≡ get_or xs 1 b → xs ≡ a ∷ b ∷ []
only_two [] a b some few is_a is_b = absurd (omega (arith, some))
only_two (x ∷ []) a b some few is_a is_b = absurd (omega (arith, some))
only_two (x ∷ y ∷ []) a b some few is_a is_b = λ i. sym is_a i ∷ sym is_b i ∷ []
only_two (x ∷ y ∷ z ∷ xs) a b some few is_a is_b = absurd (omega (arith, few))

pub same_behind : (tokens xs ys : List Token) (a b x y : Token) → tokens ≡ a ∷ x ∷ xs → tokens ≡ b ∷ y ∷ ys → xs ≡ ys
same_behind tokens xs ys a b x y is also = tails (sym is ∙ also)
  where
    tails : a ∷ x ∷ xs ≡ b ∷ y ∷ ys → xs ≡ ys
    tails e = cc e
