use Rattle.std.proofs.Common.{◌≡◌, ◌≤◌, IfSome, None, Some, length, sym, ap, ◌∙◌, subst, arith}
use Rattle.std.specs.Prelude.{option_map, pos}
use Rattle.rz_bits.specs.View.{seen}
use Rattle.rz_expr.specs.Term.{term_of}
use Rattle.rz_types_fields.specs.declared.field.NumForm.TheVariants.{Integer}
use Rattle.rz_types_fields.specs.Known.{known, met}
use Rattle.rz_types_fields.specs.Passed.{Names}
use Rattle.rz_types_fields.specs.Sees.{marked}
use Rattle.rz_types_fields.proofs.Noting.{grew_more}
use Rattle.rz_unlay_pieces.specs.Came.{here_of, step_of}
use Rattle.rz_unlay_pieces.specs.Pieces.{number_step}
use Rattle.rz_unlay.proofs.PieceSteps.{expr_more, exprs_over, no_expr, no_exprs}
use Rattle.rz_unlay.proofs.points.read_fixed_numbers.Goals as goal

pub returns-in-None-clause-step : goal.returns-in-None-clause-step
returns-in-None-clause-step c =
    let here = here_of c.args.spot.now (met c.args.learnt.now.notes.items) in
    let inv = c.loop-expr.invariant in
    no_exprs here c.args.exprs.now (known c.args.learnt.now.notes.items) c.args.at (marked c.args.at c.args.learnt.now.marks)
    (no_expr here c.args.exprs.now c.loop-expr.expr-index c.expr-item.result c.loop-expr-test.true c.expr-item.is (known c.loop-expr.learnt.notes.items) c.loop-expr.after (marked c.loop-expr.after c.loop-expr.learnt.marks) _ inv.read
    (ap (option_map (step_of c.read_fixed.new.learnt)) (sym c.in-None.is) ∙ c.in_ok-came.ensures.step
    ∙ ap (λ (m : Names). number_step (here_of c.args.spot.now m) Integer (pos 16) (Some (term_of c.expr-item.result)) (known c.loop-expr.learnt.notes.items) c.loop-expr.after (marked c.loop-expr.after c.loop-expr.learnt.marks)) inv.met))

pub loop-expr-preserved : goal.loop-expr-preserved
loop-expr-preserved c =
    let here = here_of c.args.spot.now (met c.args.learnt.now.notes.items) in
    let inv = c.loop-expr.invariant in
    record {
      read = expr_more here c.args.exprs.now c.loop-expr.expr-index c.expr-item.result c.loop-expr-test.true c.expr-item.is (known c.loop-expr.learnt.notes.items) c.loop-expr.after (marked c.loop-expr.after c.loop-expr.learnt.marks) _ inv.read
          c.in-Some.came.value c.in-Some.came.after (known c.read_fixed.new.learnt.notes.items) (marked c.in-Some.came.after c.read_fixed.new.learnt.marks) (subst (λ o. IfSome o (λ s. s.value ≡ None)) c.in-Some.is c.in_ok-came.ensures.none)
          (ap (option_map (step_of c.read_fixed.new.learnt)) (sym c.in-Some.is) ∙ c.in_ok-came.ensures.step
          ∙ ap (λ (m : Names). number_step (here_of c.args.spot.now m) Integer (pos 16) (Some (term_of c.expr-item.result)) (known c.loop-expr.learnt.notes.items) c.loop-expr.after (marked c.loop-expr.after c.loop-expr.learnt.marks)) inv.met);
      within = subst (λ o. IfSome o (λ s. s.after ≤ length (seen c.args.spot.now.view.now))) c.in-Some.is c.in_ok-came.ensures.within;
      met = c.in_ok-came.ensures.met ∙ inv.met;
      grew = grew_more c.args.learnt.now.notes.items c.loop-expr.learnt.notes.items c.read_fixed.new.learnt.notes.items inv.grew c.in_ok-came.ensures.grew;
      marks = subst (λ o. IfSome o (λ s. length c.read_fixed.new.learnt.marks ≤ s.after)) c.in-Some.is c.in_ok-came.ensures.marks;
    }

pub returns-clause-step : goal.returns-clause-step
returns-clause-step c =
    exprs_over (here_of c.args.spot.now (met c.args.learnt.now.notes.items)) c.args.exprs.now c.loop-expr.expr-index (omega arith) (known c.loop-expr.learnt.notes.items) (known c.args.learnt.now.notes.items) c.loop-expr.after c.args.at
    (marked c.loop-expr.after c.loop-expr.learnt.marks) (marked c.args.at c.args.learnt.now.marks) c.loop-expr.invariant.read
