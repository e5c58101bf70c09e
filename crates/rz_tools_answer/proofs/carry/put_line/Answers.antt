use Rattle.rz_folder.proofs.Streams.{rose_with}
use Rattle.rz_tools_answer.proofs.Said.{said}
use Rattle.rz_tools_answer.proofs.carry.put_line.Goals as goal

pub returns-then-not-is_empty : goal.returns-then-not-is_empty
returns-then-not-is_empty g c = said _ _ _ _ _ c.put_out.result c.put_out.ensures.told (rose_with _ _ c.put_out.result c.put_out.ensures.counted)
