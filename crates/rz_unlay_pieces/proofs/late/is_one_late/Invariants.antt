use Rattle.std.proofs.Common.{◌≡◌, drop, map}
use Rattle.rz_expr.specs.Term.{term_of}
use Rattle.rz_types_fields.specs.Known.{met}
use Rattle.rz_types_fields.specs.Sees.{marked}
use Rattle.rz_types_fields.specs.Spells.{is_one_late}
use Rattle.rz_unlay_pieces.specs.Seen.{sight_at}
use Rattle.rz_unlay_pieces.proofs.late.is_one_late.Given as goal

abbrev pub invariant-loop-expr : goal.invariant-loop-expr
invariant-loop-expr l =
    is_one_late (met l.learnt.notes.items) (marked l.at l.learnt.marks) (map (λ expr. term_of expr.now) (drop l.expr-index l.exprs)) (sight_at l.spot l.learnt l.at)
    ≡ is_one_late (met l.learnt.notes.items) (marked l.at l.learnt.marks) (map (λ expr. term_of expr.now) l.exprs) (sight_at l.spot l.learnt l.at)
