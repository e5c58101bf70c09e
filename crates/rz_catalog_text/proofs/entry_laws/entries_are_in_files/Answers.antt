use Rattle.rz_catalog_text.proofs.Answered.{entries_in_files, fault_in_files}
use Rattle.rz_catalog_text.proofs.entry_laws.entries_are_in_files.Goals as goal

pub returns : goal.returns
returns c = record { fault = fault_in_files; entries = entries_in_files }
