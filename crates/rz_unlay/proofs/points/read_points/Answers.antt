use Rattle.std.proofs.Common.{◌*◌, List, Option, map, sym, ap, ◌∙◌}
use Rattle.std.specs.Prelude.{option_map}
use Rattle.rz_expr.specs.Term.{term_of}
use Rattle.rz_expr.specs.declared.expr.Expr.{Expr}
use Rattle.rz_types_fields.specs.Field.{Points}
use Rattle.rz_types_fields.specs.Known.{known, met}
use Rattle.rz_types_fields.specs.Sees.{marked}
use Rattle.rz_types_fields.specs.Shape.{numbers_of}
use Rattle.rz_unlay_pieces.specs.Came.{here_of}
use Rattle.rz_unlay.specs.Pieces.{field_of_pieces}
use Rattle.rz_unlay_pieces.proofs.Marking.{came_behind, ends_behind, ok_so}
use Rattle.rz_unlay.proofs.points.read_points.Goals as goal

pub returns-in-None-clause-step : goal.returns-in-None-clause-step
returns-in-None-clause-step c =
    let before = met c.args.learnt.now.notes.items in
    let names = known c.args.learnt.now.notes.items in
    let late = marked c.args.at c.args.learnt.now.marks in
    came_behind c.args.learnt.now c.read_group.result c.args.at (16 * numbers_of c.args.field.now.rect) _ c.requires.marks c.read_group.ensures.after
    (ok_so _ _ c.read_group.result (λ came is. is before names late
    ∙ ap (λ (fixed : Option (List Expr)). field_of_pieces (here_of c.args.spot.now before) (Points (record { rect = c.args.field.now.rect; fixed = option_map (map term_of) fixed })) names c.args.at late) (sym c.in-None.is))
    c.read_group.ensures.step)

pub returns-in-None-clause-marks : goal.returns-in-None-clause-marks
returns-in-None-clause-marks c =
    ok_so _ _ c.read_group.result (λ came after. ends_behind came c.args.at (16 * numbers_of c.args.field.now.rect) _ c.requires.marks after) c.read_group.ensures.after
