use Rattle.std.proofs.Common.{◌+◌, ◌*◌, drop, length, map}
use Rattle.rz_stmt_brackets.proofs.Short.{AreShort}
use Rattle.rz_stmt_fields.specs.Form.{case_form, field_form}
use Rattle.rz_stmt_type.proofs.CaseLeads.{CaseLeads}
use Rattle.rz_stmt_type.proofs.FieldLeads.{FieldLeads}
use Rattle.rz_stmt_type.proofs.body.+body.Given as goal

-- at one place the readers call one another in this order
abbrev pub decreases-read_body : goal.decreases-read_body
decreases-read_body l = 4 * length l.tokens.now + 3

abbrev pub decreases-read_field : goal.decreases-read_field
decreases-read_field l = 4 * length l.tokens.now + 2

abbrev pub decreases-read_array : goal.decreases-read_array
decreases-read_array l = 4 * length l.tokens.now + 1

abbrev pub decreases-read_switch : goal.decreases-read_switch
decreases-read_switch l = 4 * length l.tokens.now + 1

abbrev pub decreases-read_cases : goal.decreases-read_cases
decreases-read_cases l = 4 * length l.tokens.now + 2

abbrev pub decreases-read_case : goal.decreases-read_case
decreases-read_case l = 4 * length l.tokens.now + 1

abbrev pub invariant-read_body-loop-piece : goal.invariant-read_body-loop-piece
invariant-read_body-loop-piece l = record {
  leads : FieldLeads l.in_case (map (λ piece. piece.now) l.piece-items) (map (λ piece. piece.now) (drop l.piece-index l.piece-items)) (map field_form l.body);
  short : AreShort (length l.tokens) (map (λ piece. piece.now) (drop l.piece-index l.piece-items));
}

abbrev pub invariant-read_cases-loop-piece : goal.invariant-read_cases-loop-piece
invariant-read_cases-loop-piece l = record {
  leads : CaseLeads (map (λ piece. piece.now) l.behind) (map (λ piece. piece.now) (drop l.piece-index l.behind)) (map case_form l.cases);
  short : AreShort (length l.tokens) (map (λ piece. piece.now) (drop l.piece-index l.behind));
}
