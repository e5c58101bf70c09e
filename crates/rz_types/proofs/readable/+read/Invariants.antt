use Rattle.std.proofs.Common.{◌≡◌, drop}
use Rattle.rz_types_fields.specs.Field.{plain_body, plain_cases}
use Rattle.rz_types.specs.Ahead.{StayNear}
use Rattle.rz_types.specs.Notes.{passed, AreSame, GrewBoth}
use Rattle.rz_types.specs.Readable.{are_cases_read, are_read}
use Rattle.rz_types.proofs.readable.+read.Given as goal

abbrev pub invariant-are_read-loop-field : goal.invariant-are_read-loop-field
invariant-are_read-loop-field l = record {
  read : are_read l.outermost (passed l.notes) (plain_body (drop l.field-index l.fields)) ≡ are_read l.outermost (passed l.fn.notes) (plain_body l.fields);
  grew : GrewBoth l.fn.notes l.notes;
  here : l.ahead.fields.now ≡ drop l.field-index l.fields;
  near : StayNear (plain_body l.ahead.fields.now) l.ahead.near.items;
}

abbrev pub invariant-are_cases_read-loop-case : goal.invariant-are_cases_read-loop-case
invariant-are_cases_read-loop-case l = record {
  read : are_cases_read (passed l.fn.notes) (plain_cases (drop l.case-index l.cases)) ≡ are_cases_read (passed l.fn.notes) (plain_cases l.cases);
  notes : AreSame l.fn.notes l.notes;
}
