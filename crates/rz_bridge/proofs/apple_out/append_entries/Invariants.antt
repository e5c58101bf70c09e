use Rattle.std.proofs.Common.{◌≡◌, ◌++◌, ◌<◌, ◌^◌, ◌*◌, ◌+◌, take, drop, length}
use Rattle.rz_core.specs.Lists.{with_front, each_with_front}
use Rattle.rz_bridge.specs.Apple.{parts_shown, bytes_of, part_entry}
use Rattle.rz_bridge.proofs.apple_out.append_entries.Given as goal

abbrev pub invariant-loop-part : goal.invariant-loop-part
invariant-loop-part l = record {
  so_far : l.out ++ with_front (part_entry (length l.parts)) (parts_shown (take l.part-index l.parts)) (parts_shown (drop l.part-index l.parts)) ≡ l.initial.out ++ each_with_front (part_entry (length l.parts)) (parts_shown l.parts);
  at : l.offset ≡ 26 + 12 * length l.parts + length (bytes_of (parts_shown (take l.part-index l.parts)));
  bound : l.offset + length (bytes_of (parts_shown (drop l.part-index l.parts))) < 2 ^ 32;
}
