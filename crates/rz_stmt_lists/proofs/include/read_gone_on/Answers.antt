use Rattle.std.proofs.Common.{sym}
use Rattle.rz_stmt_lists.proofs.Parts.{no_gone_on}
use Rattle.rz_stmt_lists.specs.Pick.{pick_of}
use Rattle.rz_stmt_lists.proofs.include.read_gone_on.Goals as goal

pub returns-in-Ok-None : goal.returns-in-Ok-None
returns-in-Ok-None c =
    no_gone_on c.args.kind.code (pick_of c.args.pick) c.args.tokens.now (sym c.if-is_empty_statement.ensures) (rw c.in-Ok-None.field-0-is at c.in-Ok-None.ensures)
