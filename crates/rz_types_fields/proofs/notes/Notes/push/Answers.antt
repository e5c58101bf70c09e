use Rattle.std.proofs.Common.{◌≡◌, ◌-◌, ◌≤◌, ◌==◌, ◌++◌, ◌∷◌, [], ℕ, List, drop, length, take, sym, ap, subst, ◌∙◌, arith}
use Rattle.std.specs.Prelude.{if◌then◌else◌}
use Rattle.std.proofs.lemmas.List.{length-drop}
use Rattle.rz_types_fields.specs.Newest.{held, AreHeld}
use Rattle.rz_types_fields.specs.declared.names.Note.{Note}
use Rattle.rz_types_fields.proofs.HeldNotes.{few_pushed, held_few, held_less, held_more, other_more}
use Rattle.rz_types_fields.proofs.notes.Notes.push.Goals as goal

-- one of the first few is held by no code
pub invariant_of-self : goal.invariant_of-self
invariant_of-self c =
    let items = c.args.self.now.items in
    let fewer : length items ≤ 16 = omega (arith, c.if-count-lt-FEW.true, c.len-count.ensures) in
    record {
      held = held_few 16 items c.push.new.self c.args.self.now.places fewer
          (few_pushed 16 items c.push.new.self c.args.note c.push.result (omega (arith, c.if-count-lt-FEW.true, c.len-count.ensures)) c.push.ensures.ok c.push.ensures.err)
          c.args.self.now.held;
    }

-- the position of the note was added to those of its code
pub invariant_of-self-in-Break-1 : goal.invariant_of-self-in-Break-1
invariant_of-self-in-Break-1 c = record { held = λ code. c.in_err-add.ensures.err code ∙ c.args.self.now.held code }

pub invariant_of-self-in-Ok : goal.invariant_of-self-in-Ok
invariant_of-self-in-Ok c =
    let note = c.args.note in
    let items = c.args.self.now.items in
    let within : 16 ≤ length items = omega (arith, c.if-count-lt-FEW.false, c.len-count.ensures) in
    let place : c.len-count.result - 16 ≡ length (drop 16 items) = ap (λ (n : ℕ). n - 16) c.len-count.ensures ∙ sym (length-drop 16 items) in
    record {
      held = subst (λ (l : List Note). AreHeld l c.add.new.places) (sym (ap (drop 16) c.in-Ok.ensures.ok ∙ other_more 16 items note within))
          (held_more (drop 16 items) note c.args.self.now.places c.add.new.places c.args.self.now.held
          (λ other. c.in_ok-add.ensures.ok other
          ∙ (λ i. held other c.args.self.now.places ++ (if c.note_code-code.ensures i == other then place i ∷ [] else []))));
    }

pub invariant_of-self-in-Err : goal.invariant_of-self-in-Err
invariant_of-self-in-Err c =
    let note = c.args.note in
    let items = c.args.self.now.items in
    let place : c.len-count.result - 16 ≡ length (drop 16 items) = ap (λ (n : ℕ). n - 16) c.len-count.ensures ∙ sym (length-drop 16 items) in
    record {
      held = subst (λ (l : List Note). AreHeld (drop 16 l) c.drop_last.new.places) (sym c.in-Err.ensures.err)
          (held_less (drop 16 items) note c.add.new.places c.drop_last.new.places
          (held_more (drop 16 items) note c.args.self.now.places c.add.new.places c.args.self.now.held
          (λ other. c.in_ok-add.ensures.ok other
          ∙ (λ i. held other c.args.self.now.places ++ (if c.note_code-code.ensures i == other then place i ∷ [] else []))))
          (subst
          (λ (code : ℕ). (other : ℕ) → held other c.drop_last.new.places
          ≡ (if code == other then take (length (held other c.add.new.places) - 1) (held other c.add.new.places) else held other c.add.new.places))
          c.note_code-code.ensures c.drop_last.ensures));
    }
