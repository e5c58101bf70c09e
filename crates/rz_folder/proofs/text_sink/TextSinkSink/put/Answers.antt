use Rattle.std.proofs.Common.{◌++◌, ap, ◌∙◌}
use Rattle.rz_folder.specs.TextSink.{TextState}
use Rattle.rz_folder.proofs.Streams.{all_got}
use Rattle.rz_folder.proofs.text_sink.TextSinkSink.put.Goals as goal

pub returns-in-Ok-clause-told : goal.returns-in-Ok-clause-told
returns-in-Ok-clause-told c =
    all_got c.args.self.now.bytes c.args.bytes.now c.append.new.self (c.in-Ok.ensures.ok ∙ ap (λ (s : TextState). s.bytes ++ c.args.bytes.now) c.self.view_is)
