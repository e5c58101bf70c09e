use Rattle.std.proofs.Common.{rules, ◌≡◌, true, List, drop, Some, sym, ◌∙◌}
use Rattle.rz_expr.specs.Term.{term_of}
use Rattle.rz_expr.specs.declared.expr.Expr.{Expr}
use Rattle.rz_types_fields.specs.Field.{plain_body, PlainBody}
use Rattle.rz_types_fields.specs.Passed.{told_by, Passed}
use Rattle.rz_types.specs.Notes.{passed_at}
use Rattle.rz_types.specs.Readable.{is_number_read}
use Rattle.rz_types.proofs.Noted.{both_more, others_read, others_tell}
use Rattle.rz_types.proofs.readable.are_values_read.Goals as goal

pub loop-expr-preserved : goal.loop-expr-preserved
loop-expr-preserved c =
    let exprs : List Expr = c.as_slice-expr-items.result.now in
    let expr : Expr = c.expr-item.result in
    let rest : PlainBody = plain_body (drop 1 c.args.ahead.now.fields.now) in
    let before : Passed = passed_at (plain_body c.args.ahead.now.fields.now) c.loop-expr.notes in
    let after : Passed = passed_at (plain_body c.args.ahead.now.fields.now) c.is_expression_read.new.notes in
    let so : c.in_ok-is_expression_read.field-0 ≡ true = search rules in
    let read : is_number_read rest before (Some (term_of expr)) ≡ true = sym c.in_ok-is_expression_read.ensures.read ∙ so in
    let told : after ≡ told_by (Some (term_of expr)) before = c.in_ok-is_expression_read.ensures.passed so in
    record {
      read = λ outermost. others_read exprs c.loop-expr.expr-index expr c.loop-expr-test.true c.expr-item.is outermost rest before after _ read told (c.loop-expr.invariant.read outermost);
      passed = others_tell exprs c.loop-expr.expr-index expr c.loop-expr-test.true c.expr-item.is before after _ told c.loop-expr.invariant.passed;
      grew = both_more c.args.notes.now c.loop-expr.notes c.is_expression_read.new.notes c.loop-expr.invariant.grew c.in_ok-is_expression_read.ensures.grew;
    }
