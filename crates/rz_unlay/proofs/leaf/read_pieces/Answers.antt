use Rattle.std.proofs.Common.{◌≡◌, ◌*◌, rules, w32, IfOk, IfSome, Option, refl, sym, ap, ◌∙◌, subst, arith}
use Rattle.std.specs.Int.RustNames.{FitsSigned}
use Rattle.std.specs.Prelude.{nat_abs, option_map}
use Rattle.std.proofs.lemmas.Int.{to_z-of_z}
use Rattle.rz_bits.specs.BitBuf.{missing}
use Rattle.rz_types_fields.specs.Field.{plain_field, plain_number, plain_points, plain_text, Number, PlainField, Points, Text}
use Rattle.rz_types_fields.specs.Known.{known, met}
use Rattle.rz_types_fields.specs.Sees.{marked}
use Rattle.rz_unlay_pieces.specs.Came.{here_of, step_of}
use Rattle.rz_unlay_pieces.specs.Pieces.{zeros_step, Step}
use Rattle.rz_unlay.specs.Pieces.{met_past}
use Rattle.rz_unlay.proofs.LeafSteps.{align_piece, fill_piece, label_is, label_piece, num_is, number_piece, points_is, points_piece, still_met, still_ok, text_is, text_piece}
use Rattle.rz_unlay_pieces.proofs.Marking.{behind_marks, ok_so, step_behind}
use Rattle.rz_unlay_pieces.proofs.PieceSteps.{seen_length}
use Rattle.rz_unlay.proofs.leaf.read_pieces.Goals as goal

pub returns-in-Num-clause-step : goal.returns-in-Num-clause-step
returns-in-Num-clause-step c =
    let here = here_of c.args.spot.now (met c.args.learnt.now.notes.items) in
    subst (λ (o : Option Step). IfOk c.read_number.result (λ came. option_map (step_of c.read_number.new.learnt) came ≡ o))
    (number_piece here (known c.args.learnt.now.notes.items) c.args.at (marked c.args.at c.args.learnt.now.marks) c.args.field.now c.in-Num.number c.in-Num.is)
    c.read_number.ensures.step

pub returns-in-Num-clause-met : goal.returns-in-Num-clause-met
returns-in-Num-clause-met c =
    still_met c.read_number.result (met c.args.learnt.now.notes.items) (met c.read_number.new.learnt.notes.items) (plain_field c.args.field.now) (Number (plain_number c.in-Num.number)) (num_is c.args.field.now c.in-Num.number c.in-Num.is)
    (λ key. refl) c.read_number.ensures.met

pub returns-in-Text-clause-step : goal.returns-in-Text-clause-step
returns-in-Text-clause-step c =
    let here = here_of c.args.spot.now (met c.args.learnt.now.notes.items) in
    subst (λ (o : Option Step). IfOk c.read_text.result (λ came. option_map (step_of c.args.learnt.now) came ≡ o))
    (text_piece here (known c.args.learnt.now.notes.items) c.args.at (marked c.args.at c.args.learnt.now.marks) c.args.field.now c.in-Text.text c.in-Text.is)
    c.read_text.ensures.step

pub returns-in-Text-clause-met : goal.returns-in-Text-clause-met
returns-in-Text-clause-met c =
    still_ok c.read_text.result (met c.args.learnt.now.notes.items) (plain_field c.args.field.now) (Text (plain_text c.in-Text.text)) (text_is c.args.field.now c.in-Text.text c.in-Text.is) (λ key. refl)

pub returns-in-Text-clause-marks : goal.returns-in-Text-clause-marks
returns-in-Text-clause-marks c = ok_so _ _ c.read_text.result (λ came after. behind_marks came c.args.at _ c.requires.marks after) c.read_text.ensures.after

pub returns-in-Points-clause-step : goal.returns-in-Points-clause-step
returns-in-Points-clause-step c =
    let here = here_of c.args.spot.now (met c.args.learnt.now.notes.items) in
    subst (λ (o : Option Step). IfOk c.read_points.result (λ came. option_map (step_of c.read_points.new.learnt) came ≡ o))
    (points_piece here (known c.args.learnt.now.notes.items) c.args.at (marked c.args.at c.args.learnt.now.marks) c.args.field.now c.in-Points.points c.in-Points.is)
    c.read_points.ensures.step

pub returns-in-Points-clause-met : goal.returns-in-Points-clause-met
returns-in-Points-clause-met c =
    still_met c.read_points.result (met c.args.learnt.now.notes.items) (met c.read_points.new.learnt.notes.items) (plain_field c.args.field.now) (Points (plain_points c.in-Points.points)) (points_is c.args.field.now c.in-Points.points c.in-Points.is)
    (λ key. refl) c.read_points.ensures.met

pub returns-in-Label-clause-step : goal.returns-in-Label-clause-step
returns-in-Label-clause-step c =
    let here = here_of c.args.spot.now (met c.args.learnt.now.notes.items) in
    subst (λ (o : Option Step). IfOk c.read_label.result (λ came. option_map (step_of c.read_label.new.learnt) came ≡ o))
    (label_piece here (known c.args.learnt.now.notes.items) c.args.at (marked c.args.at c.args.learnt.now.marks) c.args.field.now c.in-Label.name c.in-Label.is)
    c.read_label.ensures.step

pub returns-in-Label-clause-met : goal.returns-in-Label-clause-met
returns-in-Label-clause-met c =
    subst (λ (field : PlainField). IfOk c.read_label.result (λ came. IfSome came (λ one. met c.read_label.new.learnt.notes.items ≡ met_past field (met c.args.learnt.now.notes.items))))
    (sym (label_is c.args.field.now c.in-Label.name c.in-Label.is)) c.read_label.ensures.met

pub read_label-requires-clause-at : goal.read_label-requires-clause-at
read_label-requires-clause-at c =
    let long = seen_length c.args.spot.now.view.now.bytes.now in
    let short = c.args.spot.now.view.now.short in
    let within = c.requires.at in
    omega (arith, long, short, within)

pub returns-in-Fill-clause-step : goal.returns-in-Fill-clause-step
returns-in-Fill-clause-step c =
    let here = here_of c.args.spot.now (met c.args.learnt.now.notes.items) in
    let names = known c.args.learnt.now.notes.items in
    let late = marked c.args.at c.args.learnt.now.marks in
    let fits : FitsSigned w32 c.in-Fill.count = search rules in
    let count : c.from-in-Fill.result ≡ nat_abs c.in-Fill.count = c.from-in-Fill.ensures ∙ c.unsigned_abs.ensures.value ∙ ap nat_abs (to_z-of_z w32 c.in-Fill.count fits) in
    step_behind c.args.learnt.now c.read_zeros.result c.args.at (c.from.result * c.from-in-Fill.result) c.requires.marks c.read_zeros.ensures.after
    ∙ c.read_zeros.ensures.step names late
    ∙ (λ i. zeros_step here.all (c.from.ensures i * count i) names c.args.at late)
    ∙ fill_piece here names c.args.at late c.args.field.now c.in-Fill.unit c.in-Fill.count c.in-Fill.is

pub returns-in-Align-clause-step : goal.returns-in-Align-clause-step
returns-in-Align-clause-step c =
    let here = here_of c.args.spot.now (met c.args.learnt.now.notes.items) in
    let names = known c.args.learnt.now.notes.items in
    let late = marked c.args.at c.args.learnt.now.marks in
    step_behind c.args.learnt.now c.read_filler.result c.args.at (missing c.in-Align.unit c.args.at) c.requires.marks c.read_filler.ensures.after
    ∙ c.read_filler.ensures.step names late
    ∙ align_piece here names c.args.at late c.args.field.now c.in-Align.unit c.in-Align.is
