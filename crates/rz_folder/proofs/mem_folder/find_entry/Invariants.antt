use Rattle.std.proofs.Common.{◌≡◌, length}
use Rattle.std.specs.Ordering.{nat_cmp}
use Rattle.std.specs.Cmp.Lexicographic.{slice_cmp}
use Rattle.std.specs.FinMap.{get, find}
use Rattle.std.specs.VecDeque.Iter.{deque_iter_rest}
use Rattle.rz_folder.specs.Entries.{pairs_of, files_of, AreWithin}
use Rattle.rz_folder.proofs.mem_folder.find_entry.Given as goal

abbrev pub invariant-loop-entry : goal.invariant-loop-entry
invariant-loop-entry l = record {
  rest : get (files_of l.store l.entries.items) l.name ≡ find (slice_cmp nat_cmp) l.name (pairs_of l.store (deque_iter_rest l.entry-iterator));
  within : AreWithin (deque_iter_rest l.entry-iterator) (length l.store);
}
