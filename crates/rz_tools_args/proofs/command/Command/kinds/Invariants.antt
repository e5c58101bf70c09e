use Rattle.std.proofs.Common.{◌≡◌, ◌++◌, drop, map}
use Rattle.rz_tools_args.specs.Held.{item}
use Rattle.rz_tools_args.specs.Items.{kinds_of}
use Rattle.rz_tools_args.proofs.command.Command.kinds.Given as goal

abbrev pub invariant-loop-one : goal.invariant-loop-one
invariant-loop-one l = l.kinds ++ kinds_of l.flag (map item (drop l.one-index l.one-items)) ≡ kinds_of l.flag (map item l.one-items)
