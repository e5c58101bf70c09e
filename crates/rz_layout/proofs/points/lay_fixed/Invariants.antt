use Rattle.std.proofs.Common.{◌≡◌, [], drop, map}
use Rattle.rz_expr.specs.Term.{term_of}
use Rattle.rz_layout.specs.Laid.{draft_of, IsShort}
use Rattle.rz_types_fields.specs.Laid.{in_order, lay, takes_one}
use Rattle.rz_types_fields.specs.Piece.{fixed_integer}
use Rattle.rz_layout.proofs.points.lay_fixed.Given as goal

abbrev pub invariant-loop-expr : goal.invariant-loop-expr
invariant-loop-expr l = record {
  laid : in_order takes_one (lay l.facts) (draft_of l.laid) (map fixed_integer (map term_of (drop l.expr-index l.exprs))) []
      ≡ in_order takes_one (lay l.facts) (draft_of l.fn.laid) (map fixed_integer (map term_of l.exprs)) [];
  short : IsShort l.laid;
  notes : l.laid.notes.items ≡ l.fn.laid.notes.items;
}
