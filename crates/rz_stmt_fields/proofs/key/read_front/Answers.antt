use Rattle.std.proofs.Common.{sym, subst}
use Rattle.rz_stmt_fields.specs.Form.{field_form}
use Rattle.rz_stmt_fields.specs.Held.{held_front}
use Rattle.rz_stmt_fields.specs.Key.{IsKeyFront, IsKeyNumber, IsKeyOf}
use Rattle.rz_stmt_fields.specs.declared.field_word.FieldWord.{FieldWord}
use Rattle.rz_stmt_fields.proofs.Answering.{found_so}
use Rattle.rz_stmt_fields.proofs.key.read_front.Goals as goal

pub returns-then-may_be_key : goal.returns-then-may_be_key
returns-then-may_be_key c =
    let front = held_front c.args.front.now in
    found_so field_form (IsKeyFront front) (IsKeyNumber c.in-Number.form front)
    (λ field is. subst (λ (word : FieldWord). IsKeyOf word front field) (sym c.in-Number.is) (sym c.if-may_be_key.ensures, is))
    (λ field is. (subst (λ (word : FieldWord). IsKeyOf word front field) c.in-Number.is is).1)
    c.read_key_number.result c.read_key_number.ensures
