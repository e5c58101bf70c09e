use Rattle.std.proofs.Common.{◌≡◌, ◌++◌, drop, map}
use Rattle.rz_expr.specs.Term.{term_of}
use Rattle.rz_types_fields.proofs.expressions.push_all.Given as goal

abbrev pub invariant-loop-expr : goal.invariant-loop-expr
invariant-loop-expr l =
    map (λ expr. term_of expr.now) l.exprs.items ++ map term_of (drop l.expr-index l.all) ≡ map (λ expr. term_of expr.now) l.fn.exprs.items ++ map term_of l.all
