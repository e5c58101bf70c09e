use Rattle.std.proofs.Common.{◌≡◌, IfOk, Option, sym, ◌∙◌, subst}
use Rattle.std.specs.Prelude.{option_map}
use Rattle.rz_types_fields.specs.Field.{plain_text}
use Rattle.rz_types_fields.specs.Known.{known, met}
use Rattle.rz_types_fields.specs.Sees.{marked}
use Rattle.rz_unlay.proofs.TextSteps.{late_text, no_size, of_size}
use Rattle.rz_unlay.proofs.text.read_text.Goals as goal
use Rattle.rz_unlay_pieces.specs.Came.{here_of, step_of}
use Rattle.rz_unlay_pieces.specs.Pieces.{Step}

pub returns-then-branch-clause-step : goal.returns-then-branch-clause-step
returns-then-branch-clause-step c =
    late_text (here_of c.args.spot.now (met c.args.learnt.now.notes.items)) (plain_text c.args.field.now) (known c.args.learnt.now.notes.items) c.args.at (marked c.args.at c.args.learnt.now.marks)
    (sym c.if-branch.true ∙ c.in_ok-is_late_text.ensures)

pub returns-in-Some-clause-step : goal.returns-in-Some-clause-step
returns-in-Some-clause-step c =
    subst (λ (o : Option Step). IfOk c.read_sized.result (λ came. option_map (step_of c.args.learnt.now) came ≡ o))
    (of_size (here_of c.args.spot.now (met c.args.learnt.now.notes.items)) (plain_text c.args.field.now) (known c.args.learnt.now.notes.items) c.args.at (marked c.args.at c.args.learnt.now.marks)
    (sym c.if-branch.false ∙ c.in_ok-is_late_text.ensures) c.in-Some.size c.in-Some.ensures)
    c.read_sized.ensures.step

pub returns-in-None-clause-step : goal.returns-in-None-clause-step
returns-in-None-clause-step c =
    no_size (here_of c.args.spot.now (met c.args.learnt.now.notes.items)) (plain_text c.args.field.now) (known c.args.learnt.now.notes.items) c.args.at (marked c.args.at c.args.learnt.now.marks)
    (sym c.if-branch.false ∙ c.in_ok-is_late_text.ensures) c.in-None.ensures
