use Rattle.std.proofs.Common.{◌+◌, ◌||◌, Bool, List, ◌∷◌, drop, map, Bor, sym, ap, ◌∙◌}
use Rattle.std.specs.List.{list_any}
use Rattle.std.proofs.lemmas.List.{drop_more}
use Rattle.rz_expr.specs.Term.{term_of, Term}
use Rattle.rz_expr.specs.declared.expr.Expr.{Expr}
use Rattle.rz_types_fields.specs.Known.{known}
use Rattle.rz_types_fields.specs.Laid.{met_in}
use Rattle.rz_types_fields.specs.Sees.{names_later}
use Rattle.rz_layout.proofs.valued.any_later.Goals as goal

pub returns-then-names_later : goal.returns-then-names_later
returns-then-names_later c =
    let rule : Term → Bool = names_later (met_in (known c.args.notes.now.items)) in
    let exprs = c.args.exprs.now in
    let behind = drop (c.loop-expr.expr-index + 1) exprs in
    let found : List (Bor Expr) → Bool = λ all. list_any rule (map (λ expr. term_of expr.now) all) in
    ap (λ (b : Bool). b || found behind) (sym c.if-names_later.true ∙ c.names_later.ensures)
    ∙ ap (λ (one : Bor Expr). found (one ∷ behind)) c.expr-item.is
    ∙ sym (ap found (drop_more exprs c.loop-expr.expr-index c.expr-item.result c.loop-expr-test.true))
    ∙ c.loop-expr.invariant

pub loop-expr-preserved : goal.loop-expr-preserved
loop-expr-preserved c =
    let rule : Term → Bool = names_later (met_in (known c.args.notes.now.items)) in
    let exprs = c.args.exprs.now in
    let behind = drop (c.loop-expr.expr-index + 1) exprs in
    let found : List (Bor Expr) → Bool = λ all. list_any rule (map (λ expr. term_of expr.now) all) in
    ap (λ (b : Bool). b || found behind) (sym c.if-names_later.false ∙ c.names_later.ensures)
    ∙ ap (λ (one : Bor Expr). found (one ∷ behind)) c.expr-item.is
    ∙ sym (ap found (drop_more exprs c.loop-expr.expr-index c.expr-item.result c.loop-expr-test.true))
    ∙ c.loop-expr.invariant
