use Rattle.std.proofs.Common.{rules, ◌≡◌, true, drop, ◌∙◌}
use Rattle.rz_types_fields.specs.Field.{plain_body}
use Rattle.rz_types.proofs.OneKind.{number_behind, ok_same, points_read, switch_behind, switch_read, text_behind}
use Rattle.rz_types.proofs.Noted.{ahead_next, both_more, cut_back, next_read}
use Rattle.rz_types.proofs.readable.+read.Goals as goal

pub is_row_read-returns-clause-notes : goal.is_row_read-returns-clause-notes
is_row_read-returns-clause-notes t c = (
  c.truncate.ensures.items ∙ cut_back c.args.notes.now.met.items _ _ _ c.len-met.ensures c.in_ok-enter.ensures.grew.0 c.in_ok-read.ensures.grew.0,
  c.truncate-2.ensures.items ∙ cut_back c.args.notes.now.told.items _ _ _ c.len-told.ensures c.in_ok-enter.ensures.grew.1 c.in_ok-read.ensures.grew.1,
)

pub are_read-loop-field-preserved : goal.are_read-loop-field-preserved
are_read-loop-field-preserved t c =
    let so : c.in_ok-is_read.field-0 ≡ true = search rules in
    record {
      read = next_read c.args.fields.now c.loop-field.ahead.fields.now c.loop-field.field-index c.field-item.result c.loop-field-test.true c.field-item.is c.loop-field.invariant.here
          c.args.outermost c.in_ok-is_read.field-0 _ c.loop-field.notes c.is_read.new.notes so c.in_ok-is_read.ensures.read (c.in_ok-is_read.ensures.passed so) c.loop-field.invariant.read;
      grew = both_more c.args.notes.now c.loop-field.notes c.is_read.new.notes c.loop-field.invariant.grew c.in_ok-is_read.ensures.grew;
      here = c.in_ok-ahead-2.ensures.0
          ∙ ahead_next c.args.fields.now c.loop-field.ahead.fields.now c.loop-field.field-index c.field-item.result c.loop-field-test.true c.field-item.is c.loop-field.invariant.here;
      near = c.in_ok-ahead-2.ensures.1;
    }

pub is_read-returns-in-Num-clause-passed : goal.is_read-returns-in-Num-clause-passed
is_read-returns-in-Num-clause-passed t c =
    number_behind c.args.field.now c.is_value_read.result (plain_body c.args.ahead.now.fields.now) c.args.notes.now c.is_value_read.new.notes c.in-Num.number c.in-Num.is c.is_value_read.ensures.passed

pub is_read-returns-in-Text-clause-passed : goal.is_read-returns-in-Text-clause-passed
is_read-returns-in-Text-clause-passed t c =
    text_behind c.args.field.now c.is_text_read.result (plain_body c.args.ahead.now.fields.now) c.args.notes.now c.args.notes.now c.in-Text.text c.in-Text.is
    (ok_same c.is_text_read.result c.args.notes.now)

pub is_read-returns-in-Points-clause-read : goal.is_read-returns-in-Points-clause-read
is_read-returns-in-Points-clause-read t c =
    points_read c.args.field.now c.are_points_read.result (plain_body c.args.ahead.now.fields.now) c.args.notes.now c.are_points_read.new.notes c.args.outermost (plain_body (drop 1 c.args.ahead.now.fields.now))
    c.in-Points.points c.in-Points.is c.are_points_read.ensures.read

pub is_read-returns-in-Switch-clause-read : goal.is_read-returns-in-Switch-clause-read
is_read-returns-in-Switch-clause-read t c =
    switch_read c.args.field.now c.are_cases_read.result (plain_body c.args.ahead.now.fields.now) c.args.notes.now c.are_cases_read.new.notes c.args.outermost (plain_body (drop 1 c.args.ahead.now.fields.now))
    c.in-Switch.cases c.as_slice.result.now c.in-Switch._hints c.in-Switch.is c.as_slice.ensures c.are_cases_read.ensures.read

pub is_read-returns-in-Switch-clause-passed : goal.is_read-returns-in-Switch-clause-passed
is_read-returns-in-Switch-clause-passed t c =
    switch_behind c.args.field.now c.are_cases_read.result (plain_body c.args.ahead.now.fields.now) c.args.notes.now c.are_cases_read.new.notes c.in-Switch.cases c.in-Switch._hints c.in-Switch.is
    c.are_cases_read.ensures.notes
