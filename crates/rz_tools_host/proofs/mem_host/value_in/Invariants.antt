use Rattle.std.proofs.Common.{◌≡◌, drop}
use Rattle.rz_tools_host.specs.MemHost.{pairs_of, value_in}
use Rattle.rz_tools_host.proofs.mem_host.value_in.Given as goal

abbrev pub invariant-loop-own : goal.invariant-loop-own
invariant-loop-own l = value_in (pairs_of (drop l.own-index l.variables)) l.name ≡ value_in (pairs_of l.variables) l.name
