use Rattle.std.proofs.Common.{◌+◌, ◌*◌, ◌≤◌, drop, length, map}
use Rattle.rz_stmt_brackets.proofs.Short.{AreShort}
use Rattle.rz_types_fields.specs.Text.{plain_arguments, plain_parts}
use Rattle.rz_stmt_data.proofs.Reading.{longest, Leads, LeadsOn}
use Rattle.rz_stmt_data.proofs.texts.+texts.Given as goal

abbrev pub decreases-read_call : goal.decreases-read_call
decreases-read_call l = 8 * length l.tokens.now + 7

abbrev pub decreases-read_resource : goal.decreases-read_resource
decreases-read_resource l = 8 * length l.tokens.now + 6

abbrev pub decreases-read_format : goal.decreases-read_format
decreases-read_format l = 8 * length l.tokens.now + 6

abbrev pub decreases-read_asked : goal.decreases-read_asked
decreases-read_asked l = 8 * length l.asked.now + 5

abbrev pub decreases-read_formatted : goal.decreases-read_formatted
decreases-read_formatted l = 8 * longest (map (λ piece. piece.now) l.others.now) + 5

abbrev pub decreases-read_arguments : goal.decreases-read_arguments
decreases-read_arguments l = 8 * longest (map (λ piece. piece.now) l.pieces.now) + 4

abbrev pub decreases-read_argument : goal.decreases-read_argument
decreases-read_argument l = 8 * length l.tokens.now + 3

abbrev pub decreases-read_parts : goal.decreases-read_parts
decreases-read_parts l = 8 * length l.tokens.now + 2

abbrev pub decreases-read_front : goal.decreases-read_front
decreases-read_front l = 8 * length l.tokens.now + 1

abbrev pub decreases-read_called : goal.decreases-read_called
decreases-read_called l = 8 * length l.tokens.now + 8

abbrev pub invariant-read_parts-loop-rest : goal.invariant-read_parts-loop-rest
invariant-read_parts-loop-rest l = record {
  leads : Leads l.tokens l.rest (plain_parts l.texts);
  short : length l.rest ≤ length l.tokens;
}

abbrev pub decreases-read_parts-loop-rest : goal.decreases-read_parts-loop-rest
decreases-read_parts-loop-rest l = length l.rest

abbrev pub invariant-read_arguments-loop-piece : goal.invariant-read_arguments-loop-piece
invariant-read_arguments-loop-piece l = record {
  leads : LeadsOn (map (λ piece. piece.now) l.pieces) (map (λ piece. piece.now) (drop l.piece-index l.pieces)) (plain_arguments l.arguments);
  short : AreShort (longest (map (λ piece. piece.now) l.pieces)) (map (λ piece. piece.now) (drop l.piece-index l.pieces));
}
