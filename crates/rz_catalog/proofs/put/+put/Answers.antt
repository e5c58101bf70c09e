use Rattle.std.proofs.Common.{◌≡◌, ◌≤◌, ◌++◌, length, ◌+◌, [], ◌∷◌, take, arith, subst, sym}
use Rattle.std.proofs.lemmas.Option.{slice_get_within}
use Rattle.rz_catalog.specs.Leaves.{blank, blank_of, leaves, leaves_of}
use Rattle.rz_catalog.specs.Put.{blank_rows, row_leaves}
use Rattle.rz_catalog.proofs.Places.{counted, left, mapped, split}
use Rattle.rz_catalog.proofs.put.+put.Goals as goal

pub put_row-loop-k-preserved : goal.put_row-loop-k-preserved
put_row-loop-k-preserved t c =
    let within = slice_get_within c.args.row.now c.loop-k.k c.at.result.now c.at.ensures in
    let new : c.push.new.self ≡ c.loop-k.copy ++ c.in_ok-put.put.value ∷ [] = c.in_ok-push.ensures.ok in
    subst (λ copy. (c.loop-k.k + 1 ≤ length c.args.row.now) × (blank copy ≡ blank (take (c.loop-k.k + 1) c.args.row.now))
    × (length (leaves copy) ≡ length (leaves (take (c.loop-k.k + 1) c.args.row.now)))
    × (length (leaves c.args.row.now) ≤ length c.args.texts.now → leaves copy ++ c.in_ok-put.put.rest.now ≡ c.args.texts.now)) (sym new) (
      omega (arith, within),
      mapped blank_of c.args.row.now c.loop-k.copy c.loop-k.k c.at.result.now c.in_ok-put.put.value c.at.ensures c.loop-k.invariant.1 c.in_ok-put.ensures.same,
      counted leaves_of c.args.row.now c.loop-k.copy c.loop-k.k c.at.result.now c.in_ok-put.put.value c.at.ensures c.loop-k.invariant.2 c.in_ok-put.ensures.count,
      λ enough. split leaves_of c.loop-k.copy c.in_ok-put.put.value c.loop-k.rest.now c.in_ok-put.put.rest.now c.args.texts.now
          (c.in_ok-put.ensures.texts (left leaves_of c.args.row.now c.loop-k.k c.at.result.now (leaves c.loop-k.copy) c.loop-k.rest.now c.args.texts.now c.at.ensures c.loop-k.invariant.2 (c.loop-k.invariant.3 enough) enough))
          (c.loop-k.invariant.3 enough),
    )

pub put_rows-loop-k-preserved : goal.put_rows-loop-k-preserved
put_rows-loop-k-preserved t c =
    let within = slice_get_within c.args.rows.now c.loop-k.k c.at.result.now c.at.ensures in
    let new : c.push.new.self ≡ c.loop-k.copies ++ c.in_ok-put.put.row ∷ [] = c.in_ok-push.ensures.ok in
    subst (λ copy. (c.loop-k.k + 1 ≤ length c.args.rows.now) × (blank_rows copy ≡ blank_rows (take (c.loop-k.k + 1) c.args.rows.now))
    × (length (row_leaves copy) ≡ length (row_leaves (take (c.loop-k.k + 1) c.args.rows.now)))
    × (length (row_leaves c.args.rows.now) ≤ length c.args.texts.now → row_leaves copy ++ c.in_ok-put.put.rest.now ≡ c.args.texts.now)) (sym new) (
      omega (arith, within),
      mapped blank c.args.rows.now c.loop-k.copies c.loop-k.k c.at.result.now c.in_ok-put.put.row c.at.ensures c.loop-k.invariant.1 c.in_ok-put.ensures.same,
      counted leaves c.args.rows.now c.loop-k.copies c.loop-k.k c.at.result.now c.in_ok-put.put.row c.at.ensures c.loop-k.invariant.2 c.in_ok-put.ensures.count,
      λ enough. split leaves c.loop-k.copies c.in_ok-put.put.row c.loop-k.rest.now c.in_ok-put.put.rest.now c.args.texts.now
          (c.in_ok-put.ensures.texts (left leaves c.args.rows.now c.loop-k.k c.at.result.now (row_leaves c.loop-k.copies) c.loop-k.rest.now c.args.texts.now c.at.ensures c.loop-k.invariant.2 (c.loop-k.invariant.3 enough) enough))
          (c.loop-k.invariant.3 enough),
    )
