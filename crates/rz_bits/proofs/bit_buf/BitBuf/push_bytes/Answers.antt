use Rattle.std.proofs.Common.{◌≡◌, ℕ, ◌+◌, ◌*◌, List, ◌++◌, Bool, Result, Ok, Err, get_or, length, ap, subst, sym, ◌∙◌, arith}
use Rattle.std.specs.Prelude.{OnErr}
use Rattle.rz_bits.specs.Bits.{bits_of}
use Rattle.rz_bits.specs.Held.{held, IsHeld}
use Rattle.rz_bits.proofs.Bytes.{byte_more, byte_room}
use Rattle.rz_bits.proofs.Held.{bytes_held, bytes_pushed}
use Rattle.rz_bits.proofs.bit_buf.BitBuf.push_bytes.Goals as goal

on_err : {X E : Type 0} (result : Result X E) (P : Type 0) → P → OnErr result P
on_err (Ok value) P holds = tt
on_err (Err fault) P holds = holds

pub returns-in_err-extend_from_slice-clause-err : goal.returns-in_err-extend_from_slice-clause-err
returns-in_err-extend_from_slice-clause-err c =
    let same : held c.extend_from_slice.new.self.items c.self.inside.count ≡ c.args.self.now =
    ap (λ (xs : List ℕ). held xs c.self.inside.count) c.in_err-extend_from_slice.ensures.items ∙ c.self.view_is in
    on_err c.from_residual.result _ (c.args.bytes.now, ap (λ (bs : List Bool). bs ++ bits_of c.args.bytes.now) same)

pub invariant_of-self-then-self-eq0 : goal.invariant_of-self-then-self-eq0
invariant_of-self-then-self-eq0 c =
    let view = ap length c.self.view_is in
    subst (λ (xs : List ℕ). IsHeld xs (c.self.inside.count + 8 * length c.args.bytes.now)) (sym c.in_ok-extend_from_slice.ensures.items)
    (bytes_held c.self.inside.bytes.items c.args.bytes.now c.self.inside.count c.self.invariant c.if-self-eq0.true (omega (arith, view, c.requires.room, c.self.invariant.there)))

pub returns-then-self-eq0-clause-ok : goal.returns-then-self-eq0-clause-ok
returns-then-self-eq0-clause-ok c =
    ap (λ (xs : List ℕ). held xs (c.self.inside.count + 8 * length c.args.bytes.now)) c.in_ok-extend_from_slice.ensures.items
    ∙ bytes_pushed c.self.inside.bytes.items c.args.bytes.now c.self.inside.count c.self.invariant c.if-self-eq0.true
    ∙ ap (λ (bs : List Bool). bs ++ bits_of c.args.bytes.now) c.self.view_is

pub loop-byte-preserved : goal.loop-byte-preserved
loop-byte-preserved c = record {
  pushed = byte_more c.loop-byte.self c.push.new.self _ c.args.bytes.now c.loop-byte.byte-index c.loop-byte-test.true c.in_ok-push.ensures.ok c.loop-byte.invariant.pushed;
  room = byte_room c.loop-byte.self c.push.new.self (get_or c.args.bytes.now c.loop-byte.byte-index 0) c.loop-byte.byte-index (length c.args.bytes.now) c.loop-byte-test.true c.in_ok-push.ensures.ok c.loop-byte.invariant.room;
}
