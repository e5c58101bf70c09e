use Rattle.std.proofs.Common.{drop, map}
use Rattle.rz_expr.specs.Term.{term_of}
use Rattle.rz_stmt_fields.specs.FieldValue.{IsFixedExpression}
use Rattle.rz_stmt_fields.proofs.Each.{EachLeads}
use Rattle.rz_stmt_fields.proofs.value.read_expressions.Given as goal

abbrev pub invariant-loop-piece : goal.invariant-loop-piece
invariant-loop-piece l = EachLeads IsFixedExpression (map (λ piece. piece.now) l.pieces) (map (λ piece. piece.now) (drop l.piece-index l.pieces)) (map term_of l.exprs)
