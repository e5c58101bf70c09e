use Rattle.std.proofs.Common.{◌≡◌, ◌≤◌, length}
use Rattle.rz_bits.specs.View.{seen}
use Rattle.rz_types_fields.specs.Known.{known, met, Grew}
use Rattle.rz_types_fields.specs.Sees.{marked}
use Rattle.rz_unlay_pieces.specs.Came.{here_of}
use Rattle.rz_unlay.proofs.PieceSteps.{exprs_found}
use Rattle.rz_unlay.proofs.points.read_fixed_numbers.Given as goal

abbrev pub invariant-loop-expr : goal.invariant-loop-expr
invariant-loop-expr l = record {
  read : exprs_found (here_of l.spot (met l.fn.learnt.notes.items)) l.exprs l.expr-index (known l.learnt.notes.items) l.after (marked l.after l.learnt.marks)
      ≡ exprs_found (here_of l.spot (met l.fn.learnt.notes.items)) l.exprs 0 (known l.fn.learnt.notes.items) l.at (marked l.at l.fn.learnt.marks);
  within : l.after ≤ length (seen l.spot.view.now);
  met : met l.learnt.notes.items ≡ met l.fn.learnt.notes.items;
  grew : Grew l.fn.learnt.notes.items l.learnt.notes.items;
  marks : length l.learnt.marks ≤ l.after;
}
