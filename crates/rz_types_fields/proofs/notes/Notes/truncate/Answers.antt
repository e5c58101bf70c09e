use Rattle.std.proofs.Common.{List, ap, sym, subst, drop, take, ◌∙◌}
use Rattle.rz_types_fields.specs.Newest.{AreHeld}
use Rattle.rz_types_fields.specs.declared.names.Note.{Note}
use Rattle.rz_types_fields.proofs.notes.Notes.truncate.Goals as goal

pub forget-requires : goal.forget-requires
forget-requires c = subst (λ (l : List Note). AreHeld (drop 16 l) c.args.self.now.places) (sym c.as_slice.ensures) c.args.self.now.held

pub returns : goal.returns
returns c = record { items = c.replace-none.ensures.after ∙ c.first_notes.ensures ∙ ap (take c.args.count) c.replace-notes.ensures.value }

pub invariant_of-self : goal.invariant_of-self
invariant_of-self c = record {
  held = subst (λ (l : List Note). AreHeld (drop 16 l) c.forget.new.places)
      (ap (take c.args.count) c.as_slice.ensures ∙ sym (c.replace-none.ensures.after ∙ c.first_notes.ensures ∙ ap (take c.args.count) c.replace-notes.ensures.value))
      c.forget.ensures;
}
