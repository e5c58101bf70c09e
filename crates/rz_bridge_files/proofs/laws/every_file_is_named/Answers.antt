use Rattle.rz_bridge_files.proofs.EveryFile.{every_file, every_name}
use Rattle.rz_bridge_files.proofs.laws.every_file_is_named.Goals as goal

pub returns-clause-name : goal.returns-clause-name
returns-clause-name c = every_name c.every_path_is_parted.ensures c.every_source_is_read.ensures c.one_text.ensures.not_both

pub returns-clause-file : goal.returns-clause-file
returns-clause-file c = every_file (every_name c.every_path_is_parted.ensures c.every_source_is_read.ensures c.one_text.ensures.not_both)
