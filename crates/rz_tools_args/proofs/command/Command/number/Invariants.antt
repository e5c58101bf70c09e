use Rattle.std.proofs.Common.{◌≡◌, drop, map}
use Rattle.rz_tools_args.specs.Command.{places_of}
use Rattle.rz_tools_args.specs.Held.{item}
use Rattle.rz_tools_args.proofs.command.Command.number.Given as goal

abbrev pub invariant-loop-one : goal.invariant-loop-one
invariant-loop-one l = places_of (map item (drop l.one-index l.one-items)) ≡ places_of (map item l.one-items)
