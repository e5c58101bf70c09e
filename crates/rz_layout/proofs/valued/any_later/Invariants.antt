use Rattle.std.proofs.Common.{◌≡◌, drop, map}
use Rattle.std.specs.List.{list_any}
use Rattle.rz_expr.specs.Term.{term_of}
use Rattle.rz_types_fields.specs.Known.{known}
use Rattle.rz_types_fields.specs.Laid.{met_in}
use Rattle.rz_types_fields.specs.Sees.{names_later}
use Rattle.rz_layout.proofs.valued.any_later.Given as goal

abbrev pub invariant-loop-expr : goal.invariant-loop-expr
invariant-loop-expr l =
    list_any (names_later (met_in (known l.notes.items))) (map (λ expr. term_of expr.now) (drop l.expr-index l.exprs))
    ≡ list_any (names_later (met_in (known l.notes.items))) (map (λ expr. term_of expr.now) l.exprs)
