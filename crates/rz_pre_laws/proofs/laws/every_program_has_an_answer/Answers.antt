use Rattle.rz_pre_laws.proofs.EveryAct.{every_line_acts}
use Rattle.rz_pre_laws.proofs.EveryProgram.{every_program}
use Rattle.rz_pre_laws.proofs.laws.every_program_has_an_answer.Goals as goal

pub returns : goal.returns
returns c files tool names paths defs =
    every_program (every_line_acts c.every_line_is_cut.ensures c.one_expression.ensures.expression c.expressions_are_decided.ensures.some)
    c.every_text_has_lines.ensures c.every_source_is_read.ensures tool files paths names defs
