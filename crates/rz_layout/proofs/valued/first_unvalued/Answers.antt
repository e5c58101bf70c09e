use Rattle.std.proofs.Common.{◌+◌, List, ◌∷◌, drop, map, Bor, Option, sym, ap, ◌∙◌}
use Rattle.std.proofs.lemmas.List.{drop_more}
use Rattle.rz_core.specs.Lists.{first_of, or_else}
use Rattle.rz_expr.specs.Term.{term_of, Term}
use Rattle.rz_expr.specs.declared.expr.Expr.{Expr}
use Rattle.rz_layout.specs.Laid.{draft_of}
use Rattle.rz_types_fields.specs.Laid.{unvalued, Refusal}
use Rattle.rz_layout.proofs.valued.first_unvalued.Goals as goal

pub returns-in-Some : goal.returns-in-Some
returns-in-Some c =
    let rule : Term → Option Refusal = unvalued c.args.facts.now (draft_of c.args.laid.now) in
    let exprs = c.args.exprs.now in
    let behind = drop (c.loop-expr.expr-index + 1) exprs in
    let found : List (Bor Expr) → Option Refusal = λ all. first_of (map rule (map (λ expr. term_of expr.now) all)) in
    ap (λ (o : Option Refusal). or_else o (found behind)) c.in-Some.ensures
    ∙ ap (λ (one : Bor Expr). found (one ∷ behind)) c.expr-item.is
    ∙ sym (ap found (drop_more exprs c.loop-expr.expr-index c.expr-item.result c.loop-expr-test.true))
    ∙ c.loop-expr.invariant

pub loop-expr-preserved : goal.loop-expr-preserved
loop-expr-preserved c =
    let rule : Term → Option Refusal = unvalued c.args.facts.now (draft_of c.args.laid.now) in
    let exprs = c.args.exprs.now in
    let behind = drop (c.loop-expr.expr-index + 1) exprs in
    let found : List (Bor Expr) → Option Refusal = λ all. first_of (map rule (map (λ expr. term_of expr.now) all)) in
    ap (λ (o : Option Refusal). or_else o (found behind)) c.in_default.ensures
    ∙ ap (λ (one : Bor Expr). found (one ∷ behind)) c.expr-item.is
    ∙ sym (ap found (drop_more exprs c.loop-expr.expr-index c.expr-item.result c.loop-expr-test.true))
    ∙ c.loop-expr.invariant
