-- A token has at most one expansion.
use Rattle.std.proofs.Common.{◌≡◌, ℕ, ◌+◌, List, ◌++◌, Option, Some, None, sym, ap, subst, ◌∙◌}
use Rattle.rz_lex.specs.declared.token.Shape.{Shape}
use Rattle.rz_pre.specs.Expand.{Expansion, Expansions, bare, more, nothing, replaced}
use Rattle.rz_pre.specs.Live.{hide, name_of, Live}

same_body : (o : Option (List Shape)) (body other : List Shape) → o ≡ Some body → o ≡ Some other → body ≡ other
same_body o body other is also = cc

no_body : (o : Option (List Shape)) (body : List Shape) → o ≡ None → o ≡ Some body → ⊥
no_body o body none some = cc

mutual
  pub one_expansion : {live : Live} {s : Shape} {a b : List Shape} {i j : ℕ} → Expansion live s a i → Expansion live s b j → (a ≡ b) × (i ≡ j)
  one_expansion (bare none out one) (bare none_too out_too one_too) = (out ∙ sym out_too, one ∙ sym one_too)
  one_expansion (bare none out one) (replaced body m found x count) = absurd (no_body _ body none found)
  one_expansion (replaced body m found x count) (bare none out one) = absurd (no_body _ body none found)
  one_expansion {live} {s} (replaced body m found x count) (replaced {out = out_too} other k found_too y count_too) =
      let r = one_list x (subst (λ (ts : List Shape). Expansions (hide (name_of s) live) ts out_too k) (same_body _ other body found_too found) y) in
      (r.0, count ∙ ap (λ n. 1 + n) r.1 ∙ sym count_too)

  one_list : {live : Live} {ss a b : List Shape} {i j : ℕ} → Expansions live ss a i → Expansions live ss b j → (a ≡ b) × (i ≡ j)
  one_list (nothing out none) (nothing out_too none_too) = (out ∙ sym out_too, none ∙ sym none_too)
  one_list (more a b i j x y out count) (more c d k l z w out_too count_too) =
      let first = one_expansion x z in
      let rest = one_list y w in (
        out ∙ ap (λ (ts : List Shape). ts ++ b) first.0 ∙ ap (λ (ts : List Shape). c ++ ts) rest.0 ∙ sym out_too,
        count ∙ ap (λ n. n + j) first.1 ∙ ap (λ n. k + n) rest.1 ∙ sym count_too,
      )
