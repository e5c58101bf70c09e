use Rattle.std.proofs.Common.{◌≡◌, ◌++◌, map}
use Rattle.rz_tools_args.specs.Held.{item}
use Rattle.rz_tools_args.specs.Items.{defs_of}
use Rattle.rz_tools_args.proofs.command.Command.into_defs.Given as goal

abbrev pub invariant-loop-one : goal.invariant-loop-one
invariant-loop-one l = l.defs ++ defs_of (map item l.one-iterator.rest.items) ≡ defs_of (map item l.fn.self.items)
