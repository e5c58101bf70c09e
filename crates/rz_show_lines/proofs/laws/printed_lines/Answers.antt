use Rattle.rz_show_lines.proofs.CutLines.{cut_lines}
use Rattle.rz_show_lines.proofs.laws.printed_lines.Goals as goal

pub returns : goal.returns
returns c = cut_lines c.printed_line.ensures
