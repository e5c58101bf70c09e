use Rattle.rz_catalog_text.proofs.Answered.{one_list}
use Rattle.rz_catalog_text.proofs.entry_laws.one_list_of_entries.Goals as goal

pub returns : goal.returns
returns c = one_list
