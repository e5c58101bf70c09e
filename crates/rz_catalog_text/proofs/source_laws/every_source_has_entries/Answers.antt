use Rattle.rz_catalog_text.proofs.SourceAnswered.{has_entries}
use Rattle.rz_catalog_text.proofs.source_laws.every_source_has_entries.Goals as goal

pub returns : goal.returns
returns c = has_entries c.every_source_is_read.ensures c.every_text_is_lexed.ensures c.every_list_of_entries.ensures
