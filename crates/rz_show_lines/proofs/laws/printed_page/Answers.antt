use Rattle.rz_show_lines.proofs.Pages.{page_front}
use Rattle.rz_show_lines.proofs.laws.printed_page.Goals as goal

pub returns : goal.returns
returns c = page_front
