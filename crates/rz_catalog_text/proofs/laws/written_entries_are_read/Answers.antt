use Rattle.rz_catalog_text.proofs.Back.{read_back}
use Rattle.rz_catalog_text.proofs.laws.written_entries_are_read.Goals as goal

pub returns : goal.returns
returns c = read_back (record { cut = c.printed_line.ensures; lines = c.lines_of_page.ensures; in_front = c.printed_page.ensures })
