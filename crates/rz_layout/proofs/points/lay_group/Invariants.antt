use Rattle.std.proofs.Common.{◌≡◌, length, drop, map}
use Rattle.std.specs.Prelude.{replicate}
use Rattle.rz_layout.specs.Laid.{draft_of, IsShort}
use Rattle.rz_types_fields.specs.declared.tree.Tree.TheVariants as trees
use Rattle.rz_types_fields.specs.Laid.{in_order, lay, takes_one}
use Rattle.rz_types_fields.specs.Piece.{free_integer}
use Rattle.rz_layout.proofs.points.lay_group.Given as goal

abbrev pub invariant-loop-number : goal.invariant-loop-number
invariant-loop-number l = record {
  laid : in_order takes_one (lay l._facts) (draft_of l.laid) (replicate (length (drop l.number-index l.numbers)) free_integer) (map trees.Number (drop l.number-index l.numbers))
      ≡ in_order takes_one (lay l._facts) (draft_of l.fn.laid) (replicate (length l.numbers) free_integer) (map trees.Number l.numbers);
  short : IsShort l.laid;
  notes : l.laid.notes.items ≡ l.fn.laid.notes.items;
}
