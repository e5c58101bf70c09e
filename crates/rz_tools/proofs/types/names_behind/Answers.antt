use Rattle.std.proofs.Common.{◌<◌, ◌+◌, ℕ, List, [], ◌∷◌, ◌++◌, drop, length, sym, ap, ◌∙◌, arith, append_assoc}
use Rattle.rz_folder.proofs.Found.{drop_at}
use Rattle.rz_tools.proofs.types.names_behind.Goals as goal

pub loop-k-preserved : goal.loop-k-preserved
loop-k-preserved c =
    let names = c.args.names.now in
    let k = c.loop-k.k in
    let within : k < length names = omega arith in
    record {
      within = omega arith;
      so_far = ap (λ (l : List (List ℕ)). l ++ drop (k + 1) names) c.in_ok-push.ensures.ok
          ∙ append_assoc c.loop-k.behind (c.at.result.now ∷ []) (drop (k + 1) names)
          ∙ ap (λ (l : List (List ℕ)). c.loop-k.behind ++ l) (sym (drop_at names k c.at.result.now c.at.ensures))
          ∙ c.loop-k.invariant.so_far;
    }
