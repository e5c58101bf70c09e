use Rattle.std.proofs.Common.{◌≡◌, ◌+◌, ◌-◌, ◌*◌, ◌/◌, Some, length, drop, ap, ◌∙◌, arith}
use Rattle.rz_bits.specs.Bits.{front_bytes}
use Rattle.rz_bits.specs.View.{seen}
use Rattle.rz_unlay_texts.specs.Plain.{up_to_zero}
use Rattle.rz_unlay_texts.proofs.TextSteps.{count_here, count_later, first_count, zero_count}
use Rattle.rz_unlay_texts.proofs.text.bytes_to_zero.Goals as goal

pub loop-count-init : goal.loop-count-init
loop-count-init c =
    let all = seen c.args.view.now in
    let most : c.len.result ≡ length all = c.len.ensures.is in
    ap (λ n. zero_count 0 (up_to_zero (front_bytes n (drop (c.args.at + 8 * 0) all)))) (let e : (c.len.result - c.args.at) / 8 - 0 ≡ (length all - c.args.at) / 8 = omega (arith, most) in e)
    ∙ first_count all c.args.at ((length all - c.args.at) / 8) (let there = c.requires in omega (arith, there))

pub returns-then-byte-eq0 : goal.returns-then-byte-eq0
returns-then-byte-eq0 c =
    let all = seen c.args.view.now in
    ap (λ n. Some (n + 1)) c.from.ensures
    ∙ count_here all c.args.at _ c.loop-count.count ((c.len.result - c.args.at) / 8 - c.loop-count.count) c.in-Some.byte (omega arith) (omega (arith, c.len.ensures.is)) c.in-Some.ensures.number c.if-byte-eq0.true
    c.loop-count.invariant

pub loop-count-preserved : goal.loop-count-preserved
loop-count-preserved c =
    let all = seen c.args.view.now in
    ap (λ n. zero_count (c.loop-count.count + 1) (up_to_zero (front_bytes n (drop (c.args.at + 8 * (c.loop-count.count + 1)) all)))) (omega arith)
    ∙ count_later all c.args.at _ c.loop-count.count ((c.len.result - c.args.at) / 8 - c.loop-count.count) c.in-Some.byte (omega arith) (omega (arith, c.len.ensures.is)) c.in-Some.ensures.number c.if-byte-eq0.false
    c.loop-count.invariant
