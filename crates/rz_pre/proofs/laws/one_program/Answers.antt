use Rattle.rz_pre.specs.Program.{start}
use Rattle.rz_pre.proofs.OneProgram.{once_names}
use Rattle.rz_pre.proofs.laws.one_program.Goals as goal

pub returns : goal.returns
returns c files tool names paths defs =
    once_names (record { tokens = c.one_cut.ensures.tokens; fault = c.one_cut.ensures.fault; not_both = c.one_cut.ensures.not_both })
    c.one_expression.ensures.expression tool c.one_list_of_lines.ensures
    (record { text = c.one_text.ensures.text; fault = c.one_text.ensures.fault; not_both = c.one_text.ensures.not_both }) files paths names (start defs)
