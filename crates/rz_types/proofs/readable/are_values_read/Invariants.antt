use Rattle.std.proofs.Common.{◌≡◌, Bool, drop}
use Rattle.rz_types_fields.specs.Field.{plain_body}
use Rattle.rz_types_fields.specs.Passed.{behind_pieces, between}
use Rattle.rz_types.specs.Notes.{passed_at, GrewBoth}
use Rattle.rz_types.specs.Readable.{are_pieces_read}
use Rattle.rz_types.proofs.Noted.{pieces_with}
use Rattle.rz_types.proofs.readable.are_values_read.Given as goal

abbrev pub invariant-loop-expr : goal.invariant-loop-expr
invariant-loop-expr l = record {
  read : (outermost : Bool) → are_pieces_read outermost (plain_body (drop 1 l.ahead.fields.now)) (passed_at (plain_body l.ahead.fields.now) l.notes) (pieces_with (drop l.expr-index l.expr-items))
      ≡ are_pieces_read outermost (plain_body (drop 1 l.ahead.fields.now)) (passed_at (plain_body l.ahead.fields.now) l.fn.notes) (pieces_with l.expr-items);
  passed : between (behind_pieces (pieces_with (drop l.expr-index l.expr-items)) (passed_at (plain_body l.ahead.fields.now) l.notes))
      ≡ between (behind_pieces (pieces_with l.expr-items) (passed_at (plain_body l.ahead.fields.now) l.fn.notes));
  grew : GrewBoth l.fn.notes l.notes;
}
