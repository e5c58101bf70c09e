use Rattle.rz_catalog_text.proofs.Answered.{every_list}
use Rattle.rz_catalog_text.proofs.entry_laws.every_list_of_entries.Goals as goal

pub returns : goal.returns
returns c = every_list c.one_sign.ensures
