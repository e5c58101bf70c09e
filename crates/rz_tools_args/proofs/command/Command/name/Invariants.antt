use Rattle.std.proofs.Common.{◌≡◌, drop, map, option_map}
use Rattle.std.specs.Option.{option_or}
use Rattle.rz_tools_args.specs.Held.{item}
use Rattle.rz_tools_args.specs.Items.{last, names_of}
use Rattle.rz_tools_args.proofs.command.Command.name.Given as goal

abbrev pub invariant-loop-one : goal.invariant-loop-one
invariant-loop-one l = option_or (last (names_of l.flag (map item (drop l.one-index l.one-items)))) (option_map (λ name. name.now) l.latest) ≡ last (names_of l.flag (map item l.one-items))
