use Rattle.std.proofs.Common.{◌≡◌, drop, map}
use Rattle.std.specs.List.{list_all}
use Rattle.rz_expr.specs.Term.{term_of}
use Rattle.rz_types_fields.specs.Field.{plain_body}
use Rattle.rz_types.specs.Notes.{known, passed}
use Rattle.rz_types.specs.Readable.{all_known}
use Rattle.rz_types.proofs.passed.are_known.Given as goal

abbrev pub invariant-loop-expr : goal.invariant-loop-expr
invariant-loop-expr l =
    list_all (all_known (passed l.notes).met (known (plain_body l.ahead.fields.now) l.notes)) (map (λ expr. term_of expr.now) (drop l.expr-index l.exprs))
    ≡ list_all (all_known (passed l.notes).met (known (plain_body l.ahead.fields.now) l.notes)) (map (λ expr. term_of expr.now) l.exprs)
