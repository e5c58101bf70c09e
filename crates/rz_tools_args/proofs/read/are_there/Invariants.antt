use Rattle.std.proofs.Common.{◌≡◌, drop, map}
use Rattle.std.specs.List.{list_all, list_any}
use Rattle.rz_tools_args.specs.Held.{item, says}
use Rattle.rz_tools_args.proofs.read.are_there.Given as goal

abbrev pub invariant-loop-need : goal.invariant-loop-need
invariant-loop-need l =
    list_all (λ flag. list_any (says flag) (map item l.items)) (drop l.need-index l.needs) ≡ list_all (λ flag. list_any (says flag) (map item l.items)) l.needs
