use Rattle.std.proofs.Common.{◌≡◌, drop, map}
use Rattle.std.specs.Option.{option_or}
use Rattle.rz_tools_args.specs.Held.{item}
use Rattle.rz_tools_args.specs.Items.{last, kinds_of}
use Rattle.rz_tools_args.proofs.command.Command.kind.Given as goal

abbrev pub invariant-loop-one : goal.invariant-loop-one
invariant-loop-one l = option_or (last (kinds_of l.flag (map item (drop l.one-index l.one-items)))) l.latest ≡ last (kinds_of l.flag (map item l.one-items))
