use Rattle.std.proofs.Common.{◌≡◌, ◌++◌, drop, map, take}
use Rattle.rz_tools_work.specs.ToolWords.{numbered}
use Rattle.rz_tools_work.proofs.tool_words.number_tool_words.Given as goal

abbrev pub invariant-loop-token : goal.invariant-loop-token
invariant-loop-token l = l.token-items ≡ map (numbered l.tool) (take l.token-index l.initial.token-items) ++ drop l.token-index l.initial.token-items
