use Rattle.std.proofs.Common.{ap, sym, ◌∙◌, slice_set}
use Rattle.std.proofs.lemmas.List.Edits.{map_over_more}
use Rattle.rz_tools_work.specs.ToolWords.{numbered}
use Rattle.rz_tools_work.proofs.tool_words.number_tool_words.Goals as goal

pub loop-token-preserved : goal.loop-token-preserved
loop-token-preserved c =
    ap (slice_set c.loop-token.token-items c.loop-token.token-index) (c.number_tool_word.ensures ∙ ap (numbered c.args.tool) (sym c.token-item.is))
    ∙ map_over_more (numbered c.args.tool) c.deref_mut-token-items.result.now c.loop-token.token-items c.loop-token.token-index c.token-item.result
    c.loop-token-test.true c.loop-token.invariant c.token-item.is
