use Rattle.std.proofs.Common.{[], refl, arith}
use Rattle.std.specs.Prelude.{codes}
use Rattle.rz_tools_args.specs.Definition.{nowhere}
use Rattle.rz_tools_args.proofs.EveryCommand.{every_words}
use Rattle.rz_tools_args.proofs.EveryValue.{every_value}
use Rattle.rz_tools_args.proofs.laws.every_list_of_words_is_read.Goals as goal

pub returns : goal.returns
returns c =
    every_words c.one_text.ensures.text c.one_cut.ensures.tokens
    (every_value c.one_text.ensures.text c.one_text.ensures.not_both c.one_cut.ensures.tokens c.one_cut.ensures.not_both
    c.every_source_is_read.ensures c.every_line_is_cut.ensures)
    (c.cut_back.ensures.word nowhere (codes "a") [] refl (omega arith) refl)
