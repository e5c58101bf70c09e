use Rattle.std.proofs.Common.{◌≡◌, ◌-◌, ◌<◌, ◌==◌, ℕ, List, length, take, sym, subst, arith}
use Rattle.std.specs.Prelude.{if◌then◌else◌}
use Rattle.std.proofs.lemmas.List.{take_all}
use Rattle.rz_types_fields.specs.Newest.{held, AreHeld}
use Rattle.rz_types_fields.specs.declared.names.Note.{Note}
use Rattle.rz_types_fields.proofs.HeldNotes.{held_first, held_older}
use Rattle.rz_types_fields.proofs.notes.forget_others.Goals as goal

pub loop-newer-init : goal.loop-newer-init
loop-newer-init c =
    subst (λ (l : List Note). AreHeld l c.args.places.now) (sym (take_all (length c.args.notes.now - 0) c.args.notes.now (omega arith))) c.requires

pub loop-newer-preserved : goal.loop-newer-preserved
loop-newer-preserved c =
    let less : c.loop-newer.newer < length c.args.notes.now = omega (arith, c.loop-newer-test.true, c.saturating_sub-newer-end.ensures) in
    held_older c.args.notes.now c.loop-newer.newer c.index-notes-notes.result c.loop-newer.places c.drop_last.new.places less c.index-notes-notes.is c.loop-newer.invariant
    (subst
    (λ (code : ℕ). (other : ℕ) → held other c.drop_last.new.places
    ≡ (if code == other then take (length (held other c.loop-newer.places) - 1) (held other c.loop-newer.places) else held other c.loop-newer.places))
    c.note_code.ensures c.drop_last.ensures)

pub returns : goal.returns
returns c =
    let all : c.loop-newer.newer ≡ length c.args.notes.now - c.args.count = omega (arith, c.loop-newer-test.false, c.loop-newer.auto, c.saturating_sub-newer-end.ensures) in
    held_first c.args.notes.now c.args.count c.loop-newer.newer c.loop-newer.places all c.loop-newer.invariant
