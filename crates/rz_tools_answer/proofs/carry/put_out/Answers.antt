use Rattle.std.proofs.Common.{rules}
use Rattle.rz_folder.proofs.Streams.{put_flushed, then_with}
use Rattle.rz_tools_answer.proofs.carry.put_out.Goals as goal

pub returns-in-Done-clause-told : goal.returns-in-Done-clause-told
returns-in-Done-clause-told g c = put_flushed c.args.text.now _ _ _ _ c.in-Done.ensures.told (search rules)

pub returns-in-Done-clause-counted : goal.returns-in-Done-clause-counted
returns-in-Done-clause-counted g c = then_with _ _ _ c.flush.result c.in-Done.ensures.counted c.flush.ensures.counted
