use Rattle.std.proofs.Common.{◌≡◌, drop, map}
use Rattle.rz_core.specs.Lists.{first_of}
use Rattle.rz_expr.specs.Term.{term_of}
use Rattle.rz_layout.specs.Laid.{draft_of}
use Rattle.rz_types_fields.specs.Laid.{unvalued}
use Rattle.rz_layout.proofs.valued.first_unvalued.Given as goal

abbrev pub invariant-loop-expr : goal.invariant-loop-expr
invariant-loop-expr l =
    first_of (map (unvalued l.facts (draft_of l.laid)) (map (λ expr. term_of expr.now) (drop l.expr-index l.exprs)))
    ≡ first_of (map (unvalued l.facts (draft_of l.laid)) (map (λ expr. term_of expr.now) l.exprs))
