use Rattle.rz_catalog_text.proofs.Stored.{file_back}
use Rattle.rz_catalog_text.proofs.laws.written_catalogues_are_read.Goals as goal

pub returns : goal.returns
returns c entries stored file = file_back entries (c.written_entries_are_read.ensures entries stored) file
