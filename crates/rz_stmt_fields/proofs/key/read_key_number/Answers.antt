use Rattle.std.proofs.Common.{sym, ap, ◌∙◌}
use Rattle.rz_core.proofs.Tests.{true_false}
use Rattle.rz_stmt_fields.specs.Form.{number_form, NumberForm}
use Rattle.rz_stmt_fields.specs.Held.{held_front}
use Rattle.rz_stmt_fields.specs.Key.{is_key_value}
use Rattle.rz_stmt_fields.proofs.OneNumber.{one_number}
use Rattle.rz_stmt_fields.proofs.key.read_key_number.Goals as goal

pub returns-else-is_key_value : goal.returns-else-is_key_value
returns-else-is_key_value c field is =
    let same = one_number c.one_expression.ensures.expression c.pieces_are_cut.ensures.one c.pieces_are_cut.ensures.within c.args.form (held_front c.args.front.now)
    is.0 (number_form c.in-Some.number) is.1 (rw c.in-Some.is at c.in_ok-number.ensures) in
    true_false (sym is.2 ∙ ap (λ (n : NumberForm). is_key_value n.fixed) same ∙ sym c.if-is_key_value.ensures)
