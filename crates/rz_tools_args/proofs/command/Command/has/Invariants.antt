use Rattle.std.proofs.Common.{◌≡◌, drop, map}
use Rattle.rz_tools_args.specs.Held.{item}
use Rattle.rz_tools_args.specs.Items.{has}
use Rattle.rz_tools_args.proofs.command.Command.has.Given as goal

abbrev pub invariant-loop-one : goal.invariant-loop-one
invariant-loop-one l = has l.switch (map item (drop l.one-index l.one-items)) ≡ has l.switch (map item l.one-items)
