use Rattle.std.proofs.Common.{◌≡◌, drop, map}
use Rattle.rz_core.specs.Lists.{first_of}
use Rattle.rz_expr.specs.Term.{term_of}
use Rattle.rz_types.specs.Rules.{unknown_name}
use Rattle.rz_types_check.specs.Walked.{own_of}
use Rattle.rz_types_check.proofs.named.first_unknown.Given as goal

abbrev pub invariant-loop-expr : goal.invariant-loop-expr
invariant-loop-expr l =
    first_of (map (unknown_name (own_of l.scope)) (map (λ expr. term_of expr.now) (drop l.expr-index l.exprs)))
    ≡ first_of (map (unknown_name (own_of l.scope)) (map (λ expr. term_of expr.now) l.exprs))
