use Rattle.std.proofs.Common.{◌≡◌, [], ◌++◌, take, drop, refl, sym, ap, ◌∙◌, arith, append-nil, take-append-drop}
use Rattle.std.proofs.lemmas.Grind.{common_steps}
use Rattle.rz_folder.specs.SinkState.{SinkState}
use Rattle.rz_folder.proofs.Streams.{all_got, all_got_front}
use Rattle.rz_folder.proofs.mem_sink.MemSinkSink.put.Goals as goal

pub returns-then-self-clause-told : goal.returns-then-self-clause-told
returns-then-self-clause-told c =
    let piece = c.args.bytes.now in
    let count = c.min-count.result in
    let is : c.self-then-self.inside.bytes.items ≡ c.args.self.now.written ++ take count piece = grind (arith, common_steps) in
    all_got_front c.args.self.now.written piece c.self-then-self.inside.bytes.items (take count piece) (drop count piece, sym (take-append-drop count piece)) is

pub returns-then-length-self-clause-told : goal.returns-then-length-self-clause-told
returns-then-length-self-clause-told c =
    let is : c.self.inside.bytes.items ≡ c.args.self.now.written = ap (λ (s : SinkState). s.written) c.self.view_is in
    all_got_front c.args.self.now.written c.args.bytes.now c.self.inside.bytes.items [] (c.args.bytes.now, refl) (is ∙ sym (append-nil c.args.self.now.written))

pub returns-clause-told : goal.returns-clause-told
returns-clause-told c =
    all_got c.args.self.now.written c.args.bytes.now c.append-2.new.self.written
    (ap (λ (s : SinkState). s.written) c.append-2.ensures ∙ ap (λ (s : SinkState). s.written ++ c.args.bytes.now) c.self.view_is)
