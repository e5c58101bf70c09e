use Rattle.std.proofs.Common.{Bool, sym, ap, ◌∙◌}
use Rattle.rz_types_fields.specs.Sees.{marked}
use Rattle.rz_unlay_pieces.specs.Pieces.{late_behind}
use Rattle.rz_unlay_pieces.proofs.Marking.{marked_more}
use Rattle.rz_unlay_pieces.proofs.learnt.mark_bits.Goals as goal

pub returns-else-late-clause-marks : goal.returns-else-late-clause-marks
returns-else-late-clause-marks c =
    marked_more c.args.marks.now c.args.at c.args.width c.requires.before
    ∙ ap (λ (late : Bool). late_behind (marked c.args.at c.args.marks.now) c.args.width late) (sym c.if-late.false)
