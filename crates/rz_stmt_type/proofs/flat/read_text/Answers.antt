use Rattle.std.proofs.Common.{Bool, subst}
use Rattle.std.specs.Prelude.{IfOk, option_map}
use Rattle.rz_core.specs.Decided.{Decided}
use Rattle.rz_stmt_type.specs.Flat.{IsTextBy}
use Rattle.rz_types_fields.specs.Field.{plain_text}
use Rattle.rz_stmt_type.proofs.flat.read_text.Goals as goal

pub returns-then-begins : goal.returns-then-begins
returns-then-begins c =
    subst (λ (b : Bool). IfOk c.read_sized.result (λ text. Decided (IsTextBy b c.args.hex c.args.form c.args.tokens.now) (option_map plain_text text)))
    c.if-begins.ensures c.read_sized.ensures

pub returns-else-begins : goal.returns-else-begins
returns-else-begins c =
    subst (λ (b : Bool). IfOk c.read_unsized.result (λ text. Decided (IsTextBy b c.args.hex c.args.form c.args.tokens.now) (option_map plain_text text)))
    c.if-begins.ensures c.read_unsized.ensures
