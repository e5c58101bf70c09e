use Rattle.std.proofs.Common.{drop, map}
use Rattle.rz_stmt_data.specs.Head.{attribute_of}
use Rattle.rz_stmt_data.proofs.Attributes.{Leads}
use Rattle.rz_stmt_data.proofs.head.read_attributes.Given as goal

abbrev pub invariant-loop-piece : goal.invariant-loop-piece
invariant-loop-piece l = Leads l.subject (map (λ piece. piece.now) l.pieces) (map (λ piece. piece.now) (drop l.piece-index l.pieces)) (map attribute_of l.attributes)
