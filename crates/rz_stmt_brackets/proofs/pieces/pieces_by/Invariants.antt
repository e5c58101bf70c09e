use Rattle.std.proofs.Common.{◌++◌, List, length, map}
use Rattle.rz_lex.specs.declared.token.Token.{Token}
use Rattle.rz_stmt_brackets.specs.Pieces.{AreCut}
use Rattle.rz_stmt_brackets.proofs.pieces.pieces_by.Given as goal

abbrev pub invariant-loop-split : goal.invariant-loop-split
invariant-loop-split l = (more : List (List Token)) → AreCut l.divider l.rest more → AreCut l.divider l.tokens (map (λ piece. piece.now) l.pieces.items ++ more)

abbrev pub decreases-loop-split : goal.decreases-loop-split
decreases-loop-split l = length l.rest
