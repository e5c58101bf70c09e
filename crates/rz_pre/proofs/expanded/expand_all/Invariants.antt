use Rattle.std.proofs.Common.{◌≡◌, length}
use Rattle.std.specs.Vec.Iter.{into_iter_items, into_iter_len}
use Rattle.rz_pre.specs.Live.{live_in}
use Rattle.rz_pre.specs.Macros.{rows_of}
use Rattle.rz_pre.proofs.Replaced.{Replacing}
use Rattle.rz_pre.proofs.expanded.expand_all.Given as goal

abbrev pub invariant-loop-token : goal.invariant-loop-token
invariant-loop-token l = record {
  replacing : Replacing (live_in (rows_of l.macros)) l.fn.tokens (into_iter_items l.token-iterator) l.done;
  counted : into_iter_len l.token-iterator ≡ length (into_iter_items l.token-iterator);
}
