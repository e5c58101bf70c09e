use Rattle.std.proofs.Common.{ℕ, ap, ◌∙◌, arith}
use Rattle.rz_bits.proofs.Patched.{middle_fits, patched_fits, patched_whole}
use Rattle.rz_bits.specs.Patch.{patched}
use Rattle.rz_bits.proofs.patch.patched.Goals as goal

pub overflow_add-result : goal.overflow_add-result
overflow_add-result c = let n = middle_fits c.args.number c.args.behind c.args.width c.from.result c.requires.number c.requires.width in omega (arith, n)

pub overflow_add-result-2 : goal.overflow_add-result-2
overflow_add-result-2 c = let n = patched_fits c.args.number c.args.behind c.args.width c.from.result c.requires.number c.requires.behind c.requires.width in omega (arith, n)

pub returns : goal.returns
returns c =
    patched_whole c.args.number c.args.behind c.args.width c.from.result c.requires.number c.requires.behind c.requires.width
    ∙ ap (λ (n : ℕ). patched c.args.number c.args.behind c.args.width n) c.from.ensures
