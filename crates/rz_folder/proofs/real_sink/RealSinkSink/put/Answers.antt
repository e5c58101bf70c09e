use Rattle.std.proofs.Common.{◌≡◌, arith}
use Rattle.std.proofs.lemmas.Grind.{common_steps}
use Rattle.std.specs.declared.option.Option.{Option}
use Rattle.rz_folder.specs.Sink.{Puts, Stream}
use Rattle.rz_folder.specs.declared.sink.Put.{Put}
use Rattle.rz_folder.specs.declared.sink.Put.TheVariants.{Failed}
use Rattle.rz_folder.proofs.Writers.{so_ended, stays_put}
use Rattle.rz_folder.proofs.real_sink.RealSinkSink.put.Goals as goal

pub returns-then-self-clause-told : goal.returns-then-self-clause-told
returns-then-self-clause-told g c =
    let told = c.args.self.now.stream in
    let same : c.ended.new.self.stream ≡ told = grind (arith, common_steps) in
    so_ended (λ (s : Option Stream) (put : Put). Puts c.args.bytes.now told s put) told c.ended.new.self.stream Failed c.ended.result c.ended.ensures.result same
    (stays_put c.args.bytes.now told)
