use Rattle.std.proofs.Common.{◌≡◌, IfOk, Option, Some, subst, sym, ap, ◌∙◌}
use Rattle.rz_expr.specs.Environment.{Environment}
use Rattle.rz_expr.specs.Term.{term_of}
use Rattle.rz_expr.specs.declared.expr.Expr.{Expr}
use Rattle.rz_types_fields.specs.Known.{known}
use Rattle.rz_unlay_pieces.specs.Asked.{solves}
use Rattle.rz_unlay_pieces.specs.Names.{told}
use Rattle.rz_unlay_pieces.specs.Pieces.{solve_all}
use Rattle.rz_unlay_pieces.specs.Seen.{near_names}
use Rattle.rz_unlay_pieces.proofs.Undone.{both_solved}
use Rattle.rz_unlay_pieces.proofs.solve.+solve_all.Goals as goal

pub returns-then-branch-clause-known : goal.returns-then-branch-clause-known
returns-then-branch-clause-known t c =
    let near : Environment → Environment = near_names c.args.asked.now.spot.now in
    let solved = solves c.args.asked.now in
    let more : Environment = known c.solve_all-in-Binary.new.learnt.notes.items in
    let before = known c.args.learnt.now.notes.items in
    let first : Some more ≡ solve_all near solved (term_of c.in-Binary.left.value) before =
    ap (λ b. told b more) (sym c.if-branch.true) ∙ c.in_ok-solve_all-in-Binary.ensures.known
    ∙ ap (λ (e : Expr). solve_all near solved (term_of e) before) c.deref-in-Binary.ensures in
    subst (λ (o : Option Environment). IfOk c.solve_all-then-branch.result (λ holds. told holds (known c.solve_all-then-branch.new.learnt.notes.items) ≡ o))
    (ap (λ (e : Expr). solve_all near solved (term_of e) more) c.deref-then-branch.ensures
    ∙ both_solved near solved c.in-Binary.field-0 (term_of c.in-Binary.left.value) (term_of c.in-Binary.right.value) before more first
    ∙ ap (λ (e : Expr). solve_all near solved (term_of e) before) (sym c.in-Binary.is))
    c.solve_all-then-branch.ensures.known
