use Rattle.std.proofs.Common.{◌≡◌, ◌<◌, ℕ, zero, suc, Bool, false, List, [], ◌∷◌, length, get_or, refl, arith}
use Rattle.rz_told.proofs.lists.clear.Goals as goal

all_clear : (seen : List Bool) → ((id : ℕ) → id < length seen → get_or seen id false ≡ false) → (id : ℕ) → get_or seen id false ≡ false
all_clear [] clear id = refl
all_clear (b ∷ seen) clear zero = clear zero (omega arith)
all_clear (b ∷ seen) clear (suc id) = all_clear seen (λ k within. clear (suc k) (omega (arith, within))) id

pub returns-after-loop-id : goal.returns-after-loop-id
returns-after-loop-id c ids id = all_clear c.loop-id.marks (λ k within. c.loop-id.invariant.clear k (omega (arith, within, c.loop-id.invariant.long))) id
