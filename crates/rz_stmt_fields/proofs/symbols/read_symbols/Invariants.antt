use Rattle.std.proofs.Common.{drop, map}
use Rattle.rz_stmt_fields.specs.Form.{named_of}
use Rattle.rz_stmt_fields.specs.Symbols.{IsSymbol}
use Rattle.rz_stmt_fields.proofs.Each.{EachLeads}
use Rattle.rz_stmt_fields.proofs.symbols.read_symbols.Given as goal

abbrev pub invariant-loop-piece : goal.invariant-loop-piece
invariant-loop-piece l = EachLeads (IsSymbol l.form) (map (λ piece. piece.now) l.pieces) (map (λ piece. piece.now) (drop l.piece-index l.pieces)) (map named_of l.names)
