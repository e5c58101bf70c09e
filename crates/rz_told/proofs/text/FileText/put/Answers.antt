use Rattle.rz_folder.proofs.Streams.{put_flushed, then_with}
use Rattle.rz_told.specs.Held.{text_of}
use Rattle.rz_told.proofs.text.FileText.put.Goals as goal

pub returns-in-Ok-clause-told : goal.returns-in-Ok-clause-told
returns-in-Ok-clause-told g c = put_flushed (text_of c.args.self.now) _ _ _ c.flush.result c.in-Ok.ensures.told c.flush.ensures.told

pub returns-in-Ok-clause-counted : goal.returns-in-Ok-clause-counted
returns-in-Ok-clause-counted g c = then_with _ _ _ c.flush.result c.in-Ok.ensures.counted c.flush.ensures.counted
