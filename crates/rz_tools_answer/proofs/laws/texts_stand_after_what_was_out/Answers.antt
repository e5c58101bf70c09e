use Rattle.rz_folder.proofs.Streams.{out_alone}
use Rattle.rz_tools_answer.proofs.laws.texts_stand_after_what_was_out.Goals as goal

pub returns : goal.returns
returns c = out_alone
