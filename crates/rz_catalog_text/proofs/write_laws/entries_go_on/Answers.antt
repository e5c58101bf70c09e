use Rattle.rz_catalog_text.proofs.Lines.{texts_go_on}
use Rattle.rz_catalog_text.proofs.write_laws.entries_go_on.Goals as goal

pub returns : goal.returns
returns c = texts_go_on
