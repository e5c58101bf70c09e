-- The tokens of a macro as they are held.
use Rattle.std.proofs.Common.{◌≡◌, ℕ, zero, suc, false, true, ◌+◌, ◌<◌, ◌≤◌, List, [], ◌∷◌, length, map, drop, get_or, refl, sym, ap, subst, ◌∙◌, arith}
use Rattle.std.proofs.lemmas.List.{drop-map, drop_more}
use Rattle.std.proofs.Math.ListN.{drop_of_length-le}
use Rattle.rz_lex.specs.declared.token.Shape.{Shape}
use Rattle.rz_lex.specs.declared.token.Token.{Token}
use Rattle.rz_pre.specs.Live.{shapes_of}

abbrev shape : Token → Shape
shape token = token.shape

pub next_shape : (ts : List Token) (body : List Shape) (n : ℕ) (t : Token) → shapes_of ts ≡ body → n < length ts → get_or ts n t ≡ t → drop n body ≡ t.shape ∷ drop (n + 1) body
next_shape ts body n t is small at = subst (λ (b : List Shape). drop n b ≡ t.shape ∷ drop (n + 1) b) is
    (drop-map shape n ts ∙ ap (map shape) (drop_more ts n t small) ∙ ap (λ (x : Token). x.shape ∷ map shape (drop (n + 1) ts)) at
    ∙ ap (λ (xs : List Shape). t.shape ∷ xs) (sym (drop-map shape (n + 1) ts)))

pub no_shape : (ts : List Token) (body : List Shape) (n : ℕ) → shapes_of ts ≡ body → length ts ≤ n → drop n body ≡ []
no_shape ts body n is large = subst (λ (b : List Shape). drop n b ≡ []) is (drop-map shape n ts ∙ ap (map shape) (drop_of_length-le ts large))

pub some_token : (ts : List Token) (n : ℕ) → n < length ts → (t : Token) × (get_or ts n t ≡ t)
some_token [] n small = absurd (omega (arith, small))
some_token (t ∷ ts) zero small = (t, refl)
some_token (t ∷ ts) (suc n) small = some_token ts n (omega (arith, small))

pub no_items : {X : Type 0} → (xs : List X) → (0 < length xs → ◌≡◌ {A = _} false true) → xs ≡ []
no_items [] none = refl
no_items (x ∷ xs) none = (let never = none (omega arith) in absurd cc)

pub next_token : (ts : List Token) (n : ℕ) (t : Token) → n < length ts → get_or ts n t ≡ t → drop n ts ≡ t ∷ drop (n + 1) ts
next_token ts n t small at = drop_more ts n t small ∙ ap (λ (x : Token). x ∷ drop (n + 1) ts) at

pub no_token : (ts : List Token) (n : ℕ) → length ts ≤ n → drop n ts ≡ []
no_token ts n large = drop_of_length-le ts large
