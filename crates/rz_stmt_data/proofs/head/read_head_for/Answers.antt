use Rattle.std.proofs.Common.{map, ap}
use Rattle.rz_stmt_data.proofs.Shaped.{no_head}
use Rattle.rz_stmt_data.proofs.head.read_head_for.Goals as goal

pub returns-in-Ok-None : goal.returns-in-Ok-None
returns-in-Ok-None c =
    no_head c.args.subject (map (λ piece. piece.now) c.args.pieces.now) (map (λ piece. piece.now) c.in-Some.others.now) c.in-Some.first.now.now
    (ap (map (λ piece. piece.now)) c.in-Some.ensures.cases.0) (rw c.in-Ok-None.field-0-is at c.in-Ok-None.ensures)
