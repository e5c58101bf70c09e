use Rattle.std.proofs.Common.{◌++◌, take, arith, ap, sym, ◌∙◌}
use Rattle.std.proofs.lemmas.List.{append_assoc}
use Rattle.std.proofs.lemmas.Option.{slice_get_within}
use Rattle.rz_catalog.specs.Leaves.{leaves}
use Rattle.rz_catalog.specs.Put.{row_leaves}
use Rattle.rz_catalog.proofs.Trees.{rows_more}
use Rattle.rz_catalog.proofs.leaves.+leaves.Goals as goal

pub append_rows-loop-k-preserved : goal.append_rows-loop-k-preserved
append_rows-loop-k-preserved t c =
    let within = slice_get_within c.args.rows.now c.loop-k.k c.at.result.now c.at.ensures in (
      omega (arith, within),
      c.in_ok-append_leaves.ensures ∙ ap (λ front. front ++ leaves c.at.result.now) c.loop-k.invariant.1
          ∙ append_assoc c.args.into.now (row_leaves (take c.loop-k.k c.args.rows.now)) (leaves c.at.result.now)
          ∙ ap (λ back. c.args.into.now ++ back) (sym (rows_more c.args.rows.now c.loop-k.k c.at.result.now c.at.ensures)),
    )
