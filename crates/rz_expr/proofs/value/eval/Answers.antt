use Rattle.std.proofs.Common.{sym, ap, ◌∙◌}
use Rattle.rz_expr.specs.Term.{term_of}
use Rattle.rz_expr.specs.Unvalued.{fault_of, held}
use Rattle.rz_expr.proofs.Nameless.{copied_nameless, same_stop}
use Rattle.rz_expr.proofs.value.eval.Goals as goal

pub returns-in-Err-clause-nameless : goal.returns-in-Err-clause-nameless
returns-in-Err-clause-nameless g c = λ none is.
    copied_nameless (fault_of c.in-Err.fault) c.copy_fault.result (term_of c.args.expr.now) (g.E.Env.view c.args.env.now)
    (sym c.value_in.ensures ∙ ap held c.in-Err.is) c.copy_fault.ensures none (same_stop _ _ is)
