use Rattle.std.proofs.Common.{◌≡◌, drop}
use Rattle.std.specs.List.{AllByRecursion}
use Rattle.rz_layout.specs.Laid.{draft_of, IsNotedBy, IsShort}
use Rattle.rz_layout.specs.Sound.{AreSound}
use Rattle.rz_types_fields.specs.Laid.{body_laid}
use Rattle.rz_types_fields.specs.Passed.{declares}
use Rattle.rz_types_fields.specs.Field.{plain_body}
use Rattle.rz_layout.proofs.Arrays.{RowsSoFar}
use Rattle.rz_layout.proofs.fields.+lay.Given as goal

abbrev pub invariant-lay_fields-loop-field : goal.invariant-lay_fields-loop-field
invariant-lay_fields-loop-field l = record {
  laid : body_laid l.facts (draft_of l.laid) (plain_body (drop l.field-index l.fields)) l.values
      ≡ body_laid l.facts (draft_of l.fn.laid) (plain_body l.fields) l.row;
  sound : AreSound (plain_body (drop l.field-index l.fields)) l.values;
  notes : IsNotedBy (declares (plain_body l.fields)) l.fn.laid.notes.items l.laid.notes.items;
  short : IsShort l.laid;
}

abbrev pub invariant-lay_rows-loop-before : goal.invariant-lay_rows-loop-before
invariant-lay_rows-loop-before l = record {
  laid : RowsSoFar l.facts l.name (plain_body l.fields) l.rows (draft_of l.fn.laid) l.before (draft_of l.laid) l.places.items;
  sound : AllByRecursion (AreSound (plain_body l.fields)) (drop l.before l.rows);
  notes : l.laid.notes.items ≡ l.fn.laid.notes.items;
  short : IsShort l.laid;
}
