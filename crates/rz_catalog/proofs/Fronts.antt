-- Fronts of lists, one item longer.
use Rattle.std.proofs.Common.{◌≡◌, ℕ, zero, suc, ◌+◌, List, [], ◌∷◌, ◌++◌, take, drop, Some, sym, ap, ◌∙◌, arith}
use Rattle.std.specs.Prelude.{slice_get}
use Rattle.rz_core.proofs.Lists.{take_at_more}

pub front_more : {X : Type 0} (one other : List X) (k : ℕ) (x : X) → slice_get one k ≡ Some x → slice_get other k ≡ Some x → take k one ≡ take k other → take (k + 1) one ≡ take (k + 1) other
front_more one other k x p q h = take_at_more one k x p ∙ ap (λ front. front ++ x ∷ []) h ∙ sym (take_at_more other k x q)

drop_next : {X : Type 0} (one : List X) (k : ℕ) (x : X) → slice_get one k ≡ Some x → drop k one ≡ x ∷ drop (suc k) one
drop_next [] k x p = absurd cc
drop_next (a ∷ one) zero x p = cc
drop_next (a ∷ one) (suc k) x p = drop_next one k x p

pub drop_one : {X : Type 0} (one : List X) (k : ℕ) (x : X) → slice_get one k ≡ Some x → drop k one ≡ x ∷ drop (k + 1) one
drop_one one k x p = let n : suc k ≡ k + 1 = omega arith in drop_next one k x p ∙ ap (λ (m : ℕ). x ∷ drop m one) n
