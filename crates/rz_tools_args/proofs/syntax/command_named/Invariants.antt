use Rattle.std.proofs.Common.{◌≡◌, drop}
use Rattle.rz_tools_args.specs.Syntax.{command_named, name_in}
use Rattle.rz_tools_args.proofs.syntax.command_named.Given as goal

abbrev pub invariant-loop-name : goal.invariant-loop-name
invariant-loop-name l = name_in (drop l.name-index l.name-items) l.word ≡ command_named l.word
