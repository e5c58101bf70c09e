use Rattle.std.proofs.Common.{◌-◌, drop, None}
use Rattle.std.specs.Prelude.{replicate}
use Rattle.rz_stmt_items.specs.Item.{plain_items}
use Rattle.rz_stmt_items.specs.Matched.{number_for, numbers_for}
use Rattle.rz_stmt_items.proofs.Steps.{Walked}
use Rattle.rz_types.specs.Shape.{numbers_of}
use Rattle.rz_types.specs.Piece.{integer}
use Rattle.rz_stmt_items.proofs.group.numbers_under.Given as goal

abbrev pub invariant-loop-before : goal.invariant-loop-before
invariant-loop-before l =
    Walked (number_for l.facts) l.place (plain_items l.items) (numbers_for l.facts l.rect l.place (plain_items l.items)) l.numbers l.before
    (replicate (numbers_of l.rect - l.before) (integer None)) (plain_items (drop l.before l.items))
