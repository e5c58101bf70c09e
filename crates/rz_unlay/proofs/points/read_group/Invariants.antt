use Rattle.std.proofs.Common.{◌≡◌, ◌+◌, ◌-◌, ◌*◌, ◌≤◌, false, length}
use Rattle.rz_bits.specs.View.{seen}
use Rattle.rz_expr.specs.Environment.{Environment}
use Rattle.rz_types_fields.specs.Passed.{Names}
use Rattle.rz_types_fields.specs.Sees.{Late}
use Rattle.rz_types_fields.specs.Shape.{numbers_of}
use Rattle.rz_unlay_pieces.specs.Came.{here_of}
use Rattle.rz_unlay_pieces.specs.Pieces.{late_behind}
use Rattle.rz_unlay.specs.Points.{behind_numbers}
use Rattle.rz_unlay.proofs.PieceSteps.{group_found}
use Rattle.rz_unlay.proofs.points.read_group.Given as goal

abbrev pub invariant-loop-turn : goal.invariant-loop-turn
invariant-loop-turn l = record {
  read : (before : Names) (names : Environment) (late : Late)
      → behind_numbers l.numbers (group_found (here_of l.spot before) names (numbers_of l.rect - l._turn) l.after (late_behind late (16 * l._turn) false))
      ≡ group_found (here_of l.spot before) names (numbers_of l.rect) l.at late;
  place : l.after ≡ l.at + 16 * l._turn;
  within : l.after ≤ length (seen l.spot.view.now);
  count : length l.numbers ≡ l._turn;
}
