use Rattle.std.proofs.Common.{◌≡◌, drop, map}
use Rattle.std.specs.List.{list_any}
use Rattle.rz_tools_args.specs.Held.{item, says}
use Rattle.rz_tools_args.proofs.read.is_there.Given as goal

abbrev pub invariant-loop-one : goal.invariant-loop-one
invariant-loop-one l = list_any (says l.flag) (map item (drop l.one-index l.items)) ≡ list_any (says l.flag) (map item l.items)
