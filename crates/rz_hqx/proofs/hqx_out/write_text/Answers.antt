use Rattle.std.proofs.Common.{◌<◌, ◌∙◌, sym, subst}
use Rattle.std.specs.List.{AllByRecursion}
use Rattle.rz_hqx.proofs.Sixes.{sixes_small}
use Rattle.rz_hqx.proofs.hqx_out.write_text.Goals as goal

pub lines_of-requires : goal.lines_of-requires
lines_of-requires c =
    subst (AllByRecursion (λ n. n < 64)) (sym (c.as_slice.ensures ∙ c.in_ok-numbers.ensures)) (sixes_small c.args.bytes.now c.bytes_are_small.ensures)
