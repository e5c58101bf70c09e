use Rattle.std.proofs.Common.{Some, subst}
use Rattle.rz_folder.specs.HeldSink.{stream_of, HeldState}
use Rattle.rz_folder.specs.Sink.{Puts}
use Rattle.rz_folder.proofs.Held.{held_puts}
use Rattle.rz_folder.proofs.held_sink.HeldSinkSink.put.Goals as goal

pub returns-clause-told : goal.returns-clause-told
returns-clause-told c =
    subst (λ (s : HeldState). Puts c.args.bytes.now (Some (stream_of s)) (Some (stream_of (record { sink = c.put.new.self; out = c.self.inside.out }))) c.put.result) c.self.view_is
    (held_puts c.self.inside.out c.self.inside.sink.written c.put.new.self.written c.args.bytes.now c.put.result c.put.ensures.told)
