use Rattle.std.proofs.Common.{◌≡◌, ◌++◌, drop, map}
use Rattle.rz_expr.specs.Term.{term_of}
use Rattle.rz_types_fields.specs.Text.{argument_terms, arguments_of, plain_arguments, plain_parts, text_terms}
use Rattle.rz_types_fields.proofs.expressions.+expressions.Given as goal

abbrev pub invariant-push_parts-loop-part : goal.invariant-push_parts-loop-part
invariant-push_parts-loop-part l =
    map (λ expr. term_of expr.now) l.exprs.items ++ text_terms (plain_parts (drop l.part-index l.part-items))
    ≡ map (λ expr. term_of expr.now) l.fn.exprs.items ++ text_terms (plain_parts l.part-items)

abbrev pub invariant-push_arguments-loop-argument : goal.invariant-push_arguments-loop-argument
invariant-push_arguments-loop-argument l =
    map (λ expr. term_of expr.now) l.exprs.items ++ argument_terms (arguments_of (plain_arguments (drop l.argument-index l.argument-items)))
    ≡ map (λ expr. term_of expr.now) l.fn.exprs.items ++ argument_terms (arguments_of (plain_arguments l.argument-items))
