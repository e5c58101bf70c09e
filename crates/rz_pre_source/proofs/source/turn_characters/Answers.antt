use Rattle.std.proofs.Common.{◌+◌, sym, ap, subst, ◌∙◌, arith}
use Rattle.std.specs.declared.str.CharIndices.{CharIndices}
use Rattle.rz_pre_source.proofs.Turned.{turned_all, turned_lacks, turned_more, turned_none, Turned}
use Rattle.rz_pre_source.proofs.source.turn_characters.Goals as goal

pub loop-offset-init : goal.loop-offset-init
loop-offset-init c =
    subst (λ (it : CharIndices). Turned c.args.text.now (3 + it.at) c.new-bytes.result it.rest.now) (sym c.into_iter-offset-iterator.ensures.into_iter_gives)
    (turned_none c.args.text.now c.new-bytes.result _ _ c.utf8.text c.char_indices-offset-items.ensures.rest c.char_indices-offset-items.ensures.offset c.new-bytes.ensures)

pub loop-offset-preserved : goal.loop-offset-preserved
loop-offset-preserved c =
    let step = c.in-Some.ensures.steps in
    subst (λ bytes. Turned c.args.text.now (3 + c.next.new.self.at) bytes c.next.new.self.rest.now) (sym c.in_ok-push-in-Some-to_roman.ensures.ok)
    (turned_more c.args.text.now c.loop-offset.bytes c.loop-offset.offset-iterator.rest.now c.next.new.self.rest.now (3 + c.loop-offset.offset-iterator.at) (3 + c.next.new.self.at)
    c.in-Some.character c.in-Some-to_roman.byte c.loop-offset.invariant step.1 (omega (arith, step.2)) (sym c.to_roman.ensures ∙ c.in-Some-to_roman.is))

pub returns-in-None-to_roman-clause-bad : goal.returns-in-None-to_roman-clause-bad
returns-in-None-to_roman-clause-bad c =
    let step = c.in-Some.ensures.steps in
    turned_lacks c.args.text.now c.loop-offset.bytes c.loop-offset.offset-iterator.rest.now c.next.new.self.rest.now (3 + c.loop-offset.offset-iterator.at) c.bad_at.result.offset
    c.in-Some.character c.loop-offset.invariant step.1 (c.bad_at.ensures ∙ ap (λ n. 3 + n) step.0) (sym c.to_roman.ensures ∙ c.in-None-to_roman.is)

pub returns-clause-text : goal.returns-clause-text
returns-clause-text c = turned_all _ _ _ _ c.loop-offset.invariant c.in-None.ensures.steps.0
