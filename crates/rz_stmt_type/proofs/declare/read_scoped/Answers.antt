use Rattle.std.proofs.Common.{sym}
use Rattle.rz_stmt_type.specs.DeclareSteps.{scoped_form, AreForAny, AreForIds, AreScoped}
use Rattle.rz_stmt_fields.proofs.Answering.{found_so}
use Rattle.rz_stmt_type.proofs.MadeSo.{any_back, any_forth, ids_back, ids_forth}
use Rattle.rz_stmt_type.proofs.declare.read_scoped.Goals as goal

pub returns-then-begins : goal.returns-then-begins
returns-then-begins c =
    let tokens = c.args.tokens.now in
    found_so scoped_form (AreScoped tokens) (AreForIds tokens) (ids_forth tokens) (ids_back tokens (sym c.if-begins.ensures)) c.read_for_ids.result c.read_for_ids.ensures

pub returns-else-begins : goal.returns-else-begins
returns-else-begins c =
    let tokens = c.args.tokens.now in
    found_so scoped_form (AreScoped tokens) (AreForAny tokens) (any_forth tokens) (any_back tokens (sym c.if-begins.ensures)) c.read_for_any.result c.read_for_any.ensures
