use Rattle.std.proofs.Common.{rules, w32, of_z, to_z, None, Option, sym, ap, ◌∙◌}
use Rattle.std.specs.Int.RustNames.{FitsSigned}
use Rattle.std.specs.Prelude.{nat_abs, option_map}
use Rattle.std.proofs.lemmas.Int.{to_z-of_z}
use Rattle.rz_expr.specs.Term.{term_of}
use Rattle.rz_expr.specs.declared.expr.Expr.{Expr}
use Rattle.rz_types_fields.specs.Known.{known, met}
use Rattle.rz_types_fields.specs.Sees.{marked}
use Rattle.rz_unlay_pieces.specs.Came.{here_of}
use Rattle.rz_unlay_pieces.specs.Pieces.{number_step}
use Rattle.rz_unlay_pieces.proofs.Marking.{ends_behind, step_behind}
use Rattle.rz_unlay_pieces.proofs.number.read_number.Goals as goal

pub returns-in-None-clause-step : goal.returns-in-None-clause-step
returns-in-None-clause-step c =
    let before = met c.args.learnt.now.notes.items in
    let names = known c.args.learnt.now.notes.items in
    let late = marked c.args.at c.args.learnt.now.marks in
    let number = c.args.field.now in
    let fits : FitsSigned w32 number.width = search rules in
    step_behind c.args.learnt.now c.read_free.result c.args.at (nat_abs (to_z w32 (of_z w32 number.width))) c.requires.marks c.read_free.ensures.after
    ∙ c.read_free.ensures.step before number.form names late
    ∙ (λ i. number_step (here_of c.args.spot.now before) number.form (to_z-of_z w32 number.width fits i) None names c.args.at late)
    ∙ ap (λ (fixed : Option Expr). number_step (here_of c.args.spot.now before) number.form number.width (option_map term_of fixed) names c.args.at late) (sym c.in-None.is)

pub returns-in-None-clause-marks : goal.returns-in-None-clause-marks
returns-in-None-clause-marks c = ends_behind c.read_free.result c.args.at (nat_abs (to_z w32 (of_z w32 c.args.field.now.width))) _ c.requires.marks c.read_free.ensures.after
