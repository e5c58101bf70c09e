use Rattle.std.proofs.Common.{◌≡◌, ◌+◌, ◌-◌, ◌≤◌, List, drop, length}
use Rattle.rz_bits.specs.View.{seen}
use Rattle.rz_types_fields.specs.Spells.{values_in}
use Rattle.rz_types.specs.Field.{plain_body}
use Rattle.rz_unlay.specs.Came.{array_row, row_body}
use Rattle.rz_unlay.specs.Cursor.{body_found, most_rows, rows_until}
use Rattle.rz_unlay_pieces.specs.Few.{few}
use Rattle.rz_unlay.specs.Few.{found_count, lines_count, rows_count}
use Rattle.rz_unlay.specs.Fits.{AreFit}
use Rattle.rz_types_fields.specs.FlatRows.{AllPlacesAre}
use Rattle.rz_types_fields.specs.Known.{known, met, Grew}
use Rattle.rz_types_fields.specs.Sees.{marked}
use Rattle.rz_expr.specs.Environment.{Environment}
use Rattle.rz_unlay.proofs.FieldSteps.{with_lines, with_row}
use Rattle.rz_unlay.proofs.Labelled.{Placed}
use Rattle.rz_unlay.proofs.fields.Reader.+read.Given as goal

abbrev pub invariant-read_fields-loop-field : goal.invariant-read_fields-loop-field
invariant-read_fields-loop-field l = record {
  read : with_row l.row (few found_count l.more (body_found l.self.facts.now (seen l.self.view.now) (met l.learnt.notes.items) (plain_body (drop l.field-index l.fields)) (known l.learnt.notes.items) l.end (marked l.end l.learnt.marks)))
      ≡ few found_count l.left (body_found l.self.facts.now (seen l.self.view.now) (met l.fn.learnt.notes.items) (plain_body l.fields) (known l.fn.learnt.notes.items) l.at (marked l.at l.fn.learnt.marks));
  left : l.more + values_in l.row ≡ l.left;
  within : l.end ≤ length (seen l.self.view.now);
  marks : length l.learnt.marks ≤ l.end;
  fits : AreFit (plain_body (drop l.field-index l.fields));
  grew : Grew l.fn.learnt.notes.items l.learnt.notes.items;
  behind : l.behind ≡ l.field-index;
  placed : Placed (known l.learnt.notes.items) l.fields l.field-index l.places.items;
}

abbrev pub invariant-read_rows-loop-turn : goal.invariant-read_rows-loop-turn
invariant-read_rows-loop-turn l = record {
  read : (ends : List Environment) × AllPlacesAre (row_body l.array) ends l.so_far.places.items × (with_lines l.so_far.rows ends (few lines_count l.so_far.left (rows_until (array_row l.self.facts.now (seen l.self.view.now) l.array (met l.fn.learnt.notes.items) (known l.fn.learnt.notes.items)) l.until
      (most_rows l.until (length (seen l.self.view.now)) - l._turn) (length l.so_far.rows) l.so_far.after (marked l.so_far.after l.learnt.marks)))
      ≡ few lines_count l.left (rows_until (array_row l.self.facts.now (seen l.self.view.now) l.array (met l.fn.learnt.notes.items) (known l.fn.learnt.notes.items)) l.until
      (most_rows l.until (length (seen l.self.view.now))) 0 l.at (marked l.at l.fn.learnt.marks)));
  left : l.so_far.left + rows_count l.so_far.rows ≡ l.left;
  within : l.so_far.after ≤ length (seen l.self.view.now);
  marks : length l.learnt.marks ≤ l.so_far.after;
  notes : l.learnt.notes.items ≡ l.fn.learnt.notes.items;
}
