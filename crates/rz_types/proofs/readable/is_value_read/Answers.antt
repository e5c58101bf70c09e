use Rattle.std.proofs.Common.{◌≡◌, true, Option, Some, sym, ap, ◌∙◌}
use Rattle.std.specs.Prelude.{option_map}
use Rattle.std.proofs.lemmas.Result.{IfOk-weaker}
use Rattle.rz_expr.specs.Term.{term_of}
use Rattle.rz_expr.specs.declared.expr.Expr.{Expr}
use Rattle.rz_types_fields.specs.Field.{plain_body}
use Rattle.rz_types_fields.specs.Passed.{between, told_by, Passed}
use Rattle.rz_types.specs.Notes.{passed, passed_at}
use Rattle.rz_types.proofs.readable.is_value_read.Goals as goal

pub returns-in-Some-clause-passed : goal.returns-in-Some-clause-passed
returns-in-Some-clause-passed c =
    let before : Passed = passed_at (plain_body c.args.ahead.now.fields.now) c.args.notes.now in
    IfOk-weaker c.is_expression_read.result
    (λ read. read ≡ true → passed_at (plain_body c.args.ahead.now.fields.now) c.is_expression_read.new.notes ≡ told_by (Some (term_of c.in-Some.expr)) before)
    (λ read. read ≡ true → passed c.is_expression_read.new.notes ≡ between (told_by (option_map term_of c.args.value.now) before))
    (λ read told so. ap between (told so) ∙ ap (λ (value : Option Expr). between (told_by (option_map term_of value) before)) (sym c.in-Some.is))
    c.is_expression_read.ensures.passed
