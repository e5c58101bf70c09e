use Rattle.std.proofs.Common.{ℕ, suc, ◌<◌, List, [], ◌∷◌, get_or, arith}
use Rattle.std.specs.List.{AllByRecursion}
use Rattle.rz_hqx.proofs.letters.bytes_are_small.Goals as goal

each_small : (bytes : List ℕ) → ((i : ℕ) → get_or bytes i 0 < 256) → AllByRecursion (λ b. b < 256) bytes
each_small [] small = tt
each_small (b ∷ bs) small = (small 0, each_small bs (λ i. small (suc i)))

pub returns : goal.returns
returns c = each_small c.args.bytes.now (λ i. omega (arith, c.type_inv.bytes i))
