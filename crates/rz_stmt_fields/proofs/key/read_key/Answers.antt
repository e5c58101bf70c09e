use Rattle.std.proofs.Common.{false, None, sym, subst, ◌∙◌}
use Rattle.rz_core.proofs.Tests.{none_some, same_some}
use Rattle.rz_stmt_fields.specs.FieldWord.{front_in, FieldFront}
use Rattle.rz_stmt_fields.specs.Form.{field_form}
use Rattle.rz_stmt_fields.specs.Held.{held_front}
use Rattle.rz_stmt_fields.specs.Key.{IsKey, IsKeyFront}
use Rattle.rz_stmt_fields.proofs.Answering.{found_so}
use Rattle.rz_stmt_fields.proofs.Fronts.{fronts}
use Rattle.rz_stmt_fields.proofs.key.read_key.Goals as goal

pub returns-in-Some : goal.returns-in-Some
returns-in-Some c =
    let tokens = c.args.tokens.now in
    let front = held_front c.in-Some.front in
    found_so field_form (IsKey tokens) (IsKeyFront front)
    (λ field is. (front, (fronts tokens front).0 (sym c.in-Some.ensures), is))
    (λ field is. subst (λ (f : FieldFront). IsKeyFront f field) (same_some (front_in false None tokens) is.0 front ((fronts tokens is.0).1 is.1) (sym c.in-Some.ensures)) is.2)
    c.read_front.result c.read_front.ensures

pub returns-in-None : goal.returns-in-None
returns-in-None c field is = none_some is.0 (c.in-None.ensures ∙ (fronts c.args.tokens.now is.0).1 is.1)
