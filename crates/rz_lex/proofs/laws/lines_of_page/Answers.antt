use Rattle.rz_lex.proofs.Pages.{page_lines}
use Rattle.rz_lex.proofs.laws.lines_of_page.Goals as goal

pub returns : goal.returns
returns c = page_lines
