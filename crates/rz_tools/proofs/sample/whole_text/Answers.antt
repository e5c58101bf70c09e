use Rattle.std.proofs.Common.{ap, subst, sym}
use Rattle.rz_folder.specs.TextSink.{TextState}
use Rattle.rz_tools_text.specs.Chosen.{chosen}
use Rattle.rz_tools_text.specs.Held.{known_of}
use Rattle.rz_tools_text.specs.Put.{IsTextOf}
use Rattle.rz_tools.proofs.SampleSteps.{collected}
use Rattle.rz_tools.proofs.sample.whole_text.Goals as goal

pub returns-in-Done-clause-text : goal.returns-in-Done-clause-text
returns-in-Done-clause-text c =
    let t = c.args.shown.text in
    let fork = c.requires.1 in
    let text = c.every_list_is_shown.ensures (known_of t.known) (chosen t.only t.skip fork.0.list) in
    subst (IsTextOf t)
    (sym (collected c.new-sink.result.bytes c.put-put.new.out.bytes c.into_bytes.result text.0 c.in_ok-put.field-0 (ap (λ (s : TextState). s.bytes) c.new-sink.ensures) c.into_bytes.ensures c.in-Done.is
    (c.in_ok-put.ensures.told text.0 (fork.0, fork.1, text.1))))
    (fork.0, fork.1, text.1)
