use Rattle.std.proofs.Common.{◌≡◌, IfOk, Option, ℤ, w32, length, sym, ap, ◌∙◌, subst}
use Rattle.std.specs.Prelude.{nat_abs, option_map}
use Rattle.std.proofs.lemmas.Int.{to_z-of_z}
use Rattle.rz_bits.specs.View.{number_at, seen}
use Rattle.rz_expr.specs.Term.{term_of}
use Rattle.rz_types_fields.specs.Known.{known, met}
use Rattle.rz_types_fields.specs.Sees.{marked}
use Rattle.rz_unlay_pieces.specs.Came.{here_of, step_of}
use Rattle.rz_unlay_pieces.specs.Names.{told}
use Rattle.rz_unlay_pieces.specs.Numbers.{stored_step}
use Rattle.rz_unlay_pieces.specs.Pieces.{seen_at, solve_all, solved_at, with_near, Step}
use Rattle.rz_unlay_pieces.specs.Seen.{sight_at}
use Rattle.rz_unlay_pieces.proofs.PieceSteps.{not_solved, number_solved}
use Rattle.rz_unlay_pieces.proofs.number.read_fixed.Goals as goal

pub returns-then-branch-clause-step : goal.returns-then-branch-clause-step
returns-then-branch-clause-step c =
    let here = here_of c.args.spot.now (met c.args.learnt.now.notes.items) in
    let term = term_of c.args.expr.now in
    let same = to_z-of_z w32 c.args.width c.ranges.width in
    let width : c.unsigned_abs-bits.result ≡ nat_abs c.args.width = c.unsigned_abs-bits.ensures.value ∙ ap nat_abs same in
    let there = c.in-Some.ensures.number ∙ ap (λ (w : ℤ). number_at (seen c.args.spot.now.view.now) c.args.at (nat_abs w)) same in
    let more = known c.solve_all.new.learnt.notes.items in
    let own = c.in_ok-solve_all-in-Some.ensures in
    subst (λ (o : Option Step). IfOk c.read_stored.result (λ came. option_map (step_of c.read_stored.new.learnt) came ≡ o))
    ((λ i. stored_step (own.met i) c.args.form (same i) term c.in-Some.number (sight_at c.args.spot.now c.solve_all.new.learnt c.args.at) more c.args.at (marked c.args.at (own.marks i)))
    ∙ number_solved here c.args.form c.args.width term (known c.args.learnt.now.notes.items) c.args.at c.in-Some.number (marked c.args.at c.args.learnt.now.marks) there more
    (ap (λ b. told b more) (sym c.if-branch.true) ∙ own.known
    ∙ ap (λ w. solve_all (with_near here) (λ key now. solved_at (length here.all) w key (seen_at here now c.args.at) term c.in-Some.number) term (known c.args.learnt.now.notes.items)) width))
    c.read_stored.ensures.step

pub returns-else-branch-clause-step : goal.returns-else-branch-clause-step
returns-else-branch-clause-step c =
    let here = here_of c.args.spot.now (met c.args.learnt.now.notes.items) in
    let term = term_of c.args.expr.now in
    let same = to_z-of_z w32 c.args.width c.ranges.width in
    let width : c.unsigned_abs-bits.result ≡ nat_abs c.args.width = c.unsigned_abs-bits.ensures.value ∙ ap nat_abs same in
    let there = c.in-Some.ensures.number ∙ ap (λ (w : ℤ). number_at (seen c.args.spot.now.view.now) c.args.at (nat_abs w)) same in
    let own = c.in_ok-solve_all-in-Some.ensures in
    not_solved here c.args.form c.args.width term (known c.args.learnt.now.notes.items) c.args.at c.in-Some.number (marked c.args.at c.args.learnt.now.marks) there
    (ap (λ b. told b (known c.solve_all.new.learnt.notes.items)) (sym c.if-branch.false) ∙ own.known
    ∙ ap (λ w. solve_all (with_near here) (λ key now. solved_at (length here.all) w key (seen_at here now c.args.at) term c.in-Some.number) term (known c.args.learnt.now.notes.items)) width)
