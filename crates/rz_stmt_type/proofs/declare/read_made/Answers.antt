use Rattle.std.proofs.Common.{sym}
use Rattle.rz_stmt_type.specs.Declare.{IsMade}
use Rattle.rz_stmt_type.specs.DeclareSteps.{AreFieldsMade, IsCopy}
use Rattle.rz_stmt_fields.specs.Form.{made_form}
use Rattle.rz_stmt_fields.proofs.Answering.{found_so}
use Rattle.rz_stmt_type.proofs.MadeSo.{copy_back, copy_forth, fields_back, fields_forth}
use Rattle.rz_stmt_type.proofs.declare.read_made.Goals as goal

pub returns-then-begins : goal.returns-then-begins
returns-then-begins c =
    let tokens = c.args.tokens.now in
    found_so made_form (IsMade tokens) (AreFieldsMade tokens) (fields_forth tokens) (fields_back tokens (sym c.if-begins.ensures)) c.read_fields.result c.read_fields.ensures

pub returns-else-begins : goal.returns-else-begins
returns-else-begins c =
    let tokens = c.args.tokens.now in
    found_so made_form (IsMade tokens) (IsCopy tokens) (copy_forth tokens) (copy_back tokens (sym c.if-begins.ensures)) c.read_copy.result c.read_copy.ensures
