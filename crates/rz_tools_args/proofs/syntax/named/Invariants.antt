use Rattle.std.proofs.Common.{◌≡◌, drop}
use Rattle.rz_tools_args.specs.Held.{words_of}
use Rattle.rz_tools_args.specs.Syntax.{named}
use Rattle.rz_tools_args.proofs.syntax.named.Given as goal

abbrev pub invariant-loop-spelled : goal.invariant-loop-spelled
invariant-loop-spelled g l = named (words_of (drop l.spelled-index l.table)) l.word ≡ named (words_of l.table) l.word
