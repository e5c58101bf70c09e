use Rattle.std.proofs.Common.{ℕ, List, string_bytes, arith, ap, ◌∙◌, ◌∷◌, ◌++◌}
use Rattle.std.proofs.lemmas.Option.{slice_get_within}
use Rattle.rz_folder.proofs.Named.{named_more}
use Rattle.rz_folder.proofs.names.names_of.Goals as goal

pub loop-k-preserved : goal.loop-k-preserved
loop-k-preserved c = record {
  named = named_more (string_bytes c.in_ok-own.own) c.args.paths.now c.loop-k.names c.push-in-loop-k.new.self c.loop-k.k c.at.result.now c.deref-in-loop-k-2.result.now c.at.ensures c.loop-k.invariant.named
      (c.deref-in-loop-k-2.ensures ∙ c.in_ok-behind_path.ensures ∙ ap (λ (l : List ℕ). c.at.result.now ++ 47 ∷ l) c.deref-in-loop-k.ensures) c.in_ok-push-2.ensures.ok;
  within = let lt = slice_get_within c.args.paths.now c.loop-k.k c.at.result.now c.at.ensures in omega (arith, lt);
}
