use Rattle.rz_fork.proofs.Marks.{distinct_from_sorted}
use Rattle.rz_fork.proofs.repeats.codes_differ.Goals as goal

pub returns : goal.returns
returns c rising = distinct_from_sorted c.read_codes.new.codes c.sort_unstable.new.self _ c.sort_unstable.ensures.permutation c.read_codes.ensures (c.rises.ensures rising)
