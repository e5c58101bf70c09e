use Rattle.std.proofs.Common.{◌-◌, List, take, sym, subst, ◌∙◌}
use Rattle.rz_types_fields.specs.Newest.{AreHeld}
use Rattle.rz_types_fields.specs.declared.names.Note.{Note}
use Rattle.rz_types_fields.proofs.HeldNotes.{others_kept}
use Rattle.rz_types_fields.proofs.notes.forget.Goals as goal

pub forget_others-requires : goal.forget_others-requires
forget_others-requires c = subst (λ (l : List Note). AreHeld l c.args.places.now) (sym c.others_of.ensures) c.requires

pub returns : goal.returns
returns c =
    subst (λ (l : List Note). AreHeld l c.forget_others.new.places)
    ((λ i. take (c.saturating_sub.ensures i) (c.others_of.ensures i)) ∙ others_kept 16 c.args.count c.args.notes.now)
    c.forget_others.ensures
