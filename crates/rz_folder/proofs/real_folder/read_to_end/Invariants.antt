use Rattle.std.proofs.Common.{◌<◌, ◌^◌, length}
use Rattle.rz_folder.proofs.real_folder.read_to_end.Given as goal

abbrev pub invariant-loop : goal.invariant-loop
invariant-loop g l = length l.bytes < 2 ^ 32
