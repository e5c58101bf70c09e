use Rattle.std.proofs.Common.{◌≡◌, ◌++◌, sym, ◌∙◌}
use Rattle.rz_pre_source.specs.Source.{mark}
use Rattle.rz_pre_source.proofs.Shorter.{text_shorter}
use Rattle.rz_pre_source.proofs.Turned.{each_fault, each_text, marked_fault, marked_text}
use Rattle.rz_pre_source.proofs.source.to_mac_roman.Goals as goal

pub returns-in-Some-clause-text : goal.returns-in-Some-clause-text
returns-in-Some-clause-text c = marked_text c.args.source c.in-Some.text.now c.turn.result (sym c.as_slice.ensures ∙ c.in-Some.ensures) c.turn.ensures.text

pub returns-in-Some-clause-every_text : goal.returns-in-Some-clause-every_text
returns-in-Some-clause-every_text c =
    let is : c.args.source ≡ mark ++ c.in-Some.text.now = sym c.as_slice.ensures ∙ c.in-Some.ensures in
    each_text c.args.source c.turn.result (marked_text c.args.source c.in-Some.text.now c.turn.result is c.turn.ensures.text)
    (marked_fault c.args.source c.in-Some.text.now c.turn.result is c.turn.ensures.bad)

pub returns-in-Some-clause-every_fault : goal.returns-in-Some-clause-every_fault
returns-in-Some-clause-every_fault c =
    let is : c.args.source ≡ mark ++ c.in-Some.text.now = sym c.as_slice.ensures ∙ c.in-Some.ensures in
    each_fault c.args.source c.turn.result (marked_text c.args.source c.in-Some.text.now c.turn.result is c.turn.ensures.text)
    (marked_fault c.args.source c.in-Some.text.now c.turn.result is c.turn.ensures.bad)

pub returns-in-Some-clause-unmarked : goal.returns-in-Some-clause-unmarked
returns-in-Some-clause-unmarked c unmarked = absurd (unmarked c.in-Some.text.now (sym c.as_slice.ensures ∙ c.in-Some.ensures))

pub returns-in-Some-clause-shorter : goal.returns-in-Some-clause-shorter
returns-in-Some-clause-shorter c = text_shorter c.args.source c.in-Some.text.now c.turn.result (sym c.as_slice.ensures ∙ c.in-Some.ensures) c.turn.ensures.text
