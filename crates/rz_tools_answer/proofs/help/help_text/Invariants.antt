use Rattle.std.proofs.Common.{◌≡◌, ◌++◌, drop}
use Rattle.std.specs.Prelude.{codes}
use Rattle.std.specs.List.{flat_map}
use Rattle.rz_tools_args.specs.Syntax.{commands}
use Rattle.rz_tools_answer.specs.Help.{usage_of}
use Rattle.rz_tools_answer.proofs.help.help_text.Given as goal

abbrev pub invariant-loop-command : goal.invariant-loop-command
invariant-loop-command l = l.text ++ flat_map usage_of (drop l.command-index commands) ≡ codes "usage:\n" ++ flat_map usage_of commands
