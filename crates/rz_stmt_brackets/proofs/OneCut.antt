-- Tokens are cut in one way.
use Rattle.std.proofs.Common.{◌≡◌, ℕ, zero, suc, ◌≤◌, Bool, true, false, ◌||◌, List, [], ◌∷◌, ◌++◌, length, length-append, refl, sym, ap, subst, ◌∙◌, arith}
use Rattle.std.proofs.lemmas.Bool.{or_parts, or_right}
use Rattle.rz_core.proofs.Tests.{true_false, by_test}
use Rattle.rz_lex.specs.declared.token.Token.{Token}
use Rattle.rz_stmt_brackets.specs.Pieces.{divides_at, has_divider, last, more, AreCut, IsParted, Parted}
use Rattle.rz_stmt_brackets.specs.Statements.{open_behind, open_behind_all}
use Rattle.rz_stmt_brackets.specs.declared.pieces.Divider.{Divider}

module _ (divider : Divider) where
  pub goes_past : (depth : ℕ) (front behind : List Token) (sign : Token) → divides_at divider (open_behind_all front depth) sign ≡ true
      → has_divider divider depth (front ++ sign ∷ behind) ≡ true
  goes_past depth [] behind sign here = ap (λ (b : Bool). b || has_divider divider (open_behind sign.shape depth) behind) here
  goes_past depth (token ∷ front) behind sign here =
      or_right (divides_at divider depth token) _ (goes_past (open_behind token.shape depth) front behind sign here)

  same_front : (depth : ℕ) (f g b d : List Token) (l m : Token) → has_divider divider depth f ≡ false → has_divider divider depth g ≡ false
      → divides_at divider (open_behind_all f depth) l ≡ true → divides_at divider (open_behind_all g depth) m ≡ true
      → f ++ l ∷ b ≡ g ++ m ∷ d → (f ≡ g) × (b ≡ d)
  same_front depth [] [] b d l m nf ng el em is = (refl, tails is)
    where
      tails : l ∷ b ≡ m ∷ d → b ≡ d
      tails e = cc e
  same_front depth [] (y ∷ g) b d l m nf ng el em is =
      absurd (true_false (sym el ∙ ap (divides_at divider depth) (heads is) ∙ (or_parts _ _ ng).0))
    where
      heads : l ∷ b ≡ y ∷ (g ++ m ∷ d) → l ≡ y
      heads e = cc e
  same_front depth (x ∷ f) [] b d l m nf ng el em is =
      absurd (true_false (sym em ∙ ap (divides_at divider depth) (sym (heads is)) ∙ (or_parts _ _ nf).0))
    where
      heads : x ∷ (f ++ l ∷ b) ≡ m ∷ d → x ≡ m
      heads e = cc e
  same_front depth (x ∷ f) (y ∷ g) b d l m nf ng el em is =
      let head = heads is in
      let r = same_front (open_behind x.shape depth) f g b d l m (or_parts _ _ nf).1
      (subst (λ (t : Token). has_divider divider (open_behind t.shape depth) g ≡ false) (sym head) (or_parts _ _ ng).1) el
      (subst (λ (t : Token). divides_at divider (open_behind_all g (open_behind t.shape depth)) m ≡ true) (sym head) em) (tails is) in
      ((λ i. head i ∷ r.0 i), r.1)
    where
      heads : x ∷ (f ++ l ∷ b) ≡ y ∷ (g ++ m ∷ d) → x ≡ y
      heads e = cc e

      tails : x ∷ (f ++ l ∷ b) ≡ y ∷ (g ++ m ∷ d) → f ++ l ∷ b ≡ g ++ m ∷ d
      tails e = cc e

  pub one_parting : (tokens : List Token) (parted other : Parted) → IsParted divider tokens parted → IsParted divider tokens other → parted ≡ other
  one_parting tokens parted other is also =
      let same = same_front 0 parted.front other.front parted.behind other.behind is.sign also.sign is.first also.first is.divides also.divides (sym is.are ∙ also.are) in
      λ i. record { front = same.0 i; behind = same.1 i }

  pub never_parted : (tokens : List Token) (parted : Parted) → has_divider divider 0 tokens ≡ false → IsParted divider tokens parted → ⊥
  never_parted tokens parted none is =
      true_false (sym (goes_past 0 parted.front parted.behind is.sign is.divides) ∙ ap (has_divider divider 0) (sym is.are) ∙ none)

  pub one_cut : (tokens : List Token) (pieces others : List (List Token)) → AreCut divider tokens pieces → AreCut divider tokens others → pieces ≡ others
  one_cut tokens pieces others (last piece none) (last same also) = refl
  one_cut tokens pieces others (last piece none) (more whole parted rest is cut) = absurd (never_parted tokens parted none is)
  one_cut tokens pieces others (more whole parted rest is cut) (last piece none) = absurd (never_parted tokens parted none is)
  one_cut tokens pieces others (more whole parted rest is cut) (more same other pieces_behind also cut_too) =
      let one = one_parting tokens parted other is also in
      let behind = one_cut other.behind rest pieces_behind (subst (λ (p : Parted). AreCut divider p.behind rest) one cut) cut_too in
      λ i. (one i).front ∷ behind i

-- Some pieces there are.

pub data FirstSign (divider : Divider) (depth : ℕ) (tokens : List Token) : Type 0 where
  found : (front behind : List Token) (sign : Token) → tokens ≡ front ++ sign ∷ behind → has_divider divider depth front ≡ false
      → divides_at divider (open_behind_all front depth) sign ≡ true → FirstSign divider depth tokens
  nowhere : has_divider divider depth tokens ≡ false → FirstSign divider depth tokens

pub first_sign : (divider : Divider) (depth : ℕ) (tokens : List Token) → FirstSign divider depth tokens
first_sign divider depth [] = nowhere refl
first_sign divider depth (token ∷ tokens) = by_test (FirstSign divider depth (token ∷ tokens)) (divides_at divider depth token)
    (λ here. found [] tokens token refl refl here)
    (λ off. onto off (first_sign divider (open_behind token.shape depth) tokens))
  where
    onto : divides_at divider depth token ≡ false → FirstSign divider (open_behind token.shape depth) tokens → FirstSign divider depth (token ∷ tokens)
    onto off (found front behind sign are none here) =
        found (token ∷ front) behind sign (ap (λ (ts : List Token). token ∷ ts) are)
        (ap (λ (b : Bool). b || has_divider divider (open_behind token.shape depth) front) off ∙ none) here
    onto off (nowhere none) = nowhere (ap (λ (b : Bool). b || has_divider divider (open_behind token.shape depth) tokens) off ∙ none)

pub some_pieces : (divider : Divider) (count : ℕ) (tokens : List Token) → length tokens ≤ count → (pieces : List (List Token)) × AreCut divider tokens pieces
some_pieces divider zero [] few = ([] ∷ [], last [] refl)
some_pieces divider zero (token ∷ tokens) few = absurd (omega (arith, few))
some_pieces divider (suc count) tokens few = by (some_pieces divider count) (first_sign divider 0 tokens)
  where
    by : ((behind : List Token) → length behind ≤ count → (pieces : List (List Token)) × AreCut divider behind pieces)
        → FirstSign divider 0 tokens → (pieces : List (List Token)) × AreCut divider tokens pieces
    by fewer (found front behind sign are none here) =
        let rest = fewer behind (omega (arith, few, ap (λ (ts : List Token). length ts) are, length-append front (sign ∷ behind))) in (
          front ∷ rest.0,
          more tokens (record { front = front; behind = behind }) rest.0 (record { sign = sign; are = are; first = none; divides = here }) rest.1,
        )
    by fewer (nowhere none) = (tokens ∷ [], last tokens none)
