use Rattle.std.proofs.Common.{sym}
use Rattle.rz_stmt_fields.proofs.Filled.{no_fill}
use Rattle.rz_stmt_fields.proofs.field.read_fill.Goals as goal

pub returns-in-None : goal.returns-in-None
returns-in-None c =
    no_fill c.args.tokens.now c.in-Some.rest.now c.in-Some.first.now c.in-Some.ensures.cases.0 (sym c.if-is_empty.ensures) (rw c.in-None.is at c.in_ok-count.ensures)
