use Rattle.std.proofs.Common.{◌≡◌, ◌++◌, drop, map}
use Rattle.rz_tools_args.specs.Held.{item}
use Rattle.rz_tools_args.specs.Items.{names_of}
use Rattle.rz_tools_args.proofs.command.Command.names.Given as goal

abbrev pub invariant-loop-one : goal.invariant-loop-one
invariant-loop-one l = l.names ++ names_of l.flag (map item (drop l.one-index l.one-items)) ≡ names_of l.flag (map item l.one-items)
