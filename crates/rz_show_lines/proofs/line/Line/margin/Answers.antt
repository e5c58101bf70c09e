use Rattle.std.proofs.Common.{◌≡◌, ℕ, zero, suc, ◌+◌, ◌-◌, ◌*◌, ◌≤◌, List, ◌∷◌, ◌++◌, take, refl, ap, subst, ◌∙◌, arith}
use Rattle.std.specs.Prelude.{replicate}
use Rattle.rz_show_lines.specs.Cut.{cut}
use Rattle.rz_show_lines.specs.Print.{blanks}
use Rattle.rz_show_lines.specs.Written.{line_text}
use Rattle.rz_show_lines.proofs.line.Line.margin.Goals as goal

blanks_are : (n m : ℕ) → take (4 * n) (replicate (m + 4 * n) 32) ≡ line_text (blanks n)
blanks_are zero m = refl
blanks_are (suc n) m =
    let whole : m + 4 * suc n ≡ suc (suc (suc (suc (m + 4 * n)))) = omega arith in
    let front : 4 * suc n ≡ suc (suc (suc (suc (4 * n)))) = omega arith in
    rw (whole, front) (ap (λ (r : List ℕ). 32 ∷ 32 ∷ 32 ∷ 32 ∷ r) (blanks_are n m))

front_is : (n : ℕ) → n ≤ 8 → take (4 * n) (replicate 32 32) ≡ line_text (blanks n)
front_is n few =
    let whole : 32 - 4 * n + 4 * n ≡ 32 = omega (arith, few) in
    subst (λ (k : ℕ). take (4 * n) (replicate k 32) ≡ line_text (blanks n)) whole (blanks_are n (32 - 4 * n))

pub returns : goal.returns
returns c =
    let few : c.min.result ≤ 8 = omega (arith, c.min.ensures) in
    c.append.ensures ∙ ap (λ (r : List ℕ). cut (c.args.self.now ++ r)) (front_is c.min.result few ∙ ap (λ (n : ℕ). line_text (blanks n)) c.min.ensures)
