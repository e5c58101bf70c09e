use Rattle.std.proofs.Common.{rules}
use Rattle.rz_types_fields.specs.Field.{plain_body, plain_field}
use Rattle.rz_types_fields.specs.Known.{known}
use Rattle.rz_types_fields.specs.Passed.{declares, gives_key}
use Rattle.rz_layout.proofs.Noted.{counted_next, each_declares, noted_both, noted_none, noted_wider}
use Rattle.rz_layout.proofs.names.count_rows.Goals as goal

pub loop-field-init : goal.loop-field-init
loop-field-init c = record { known = search rules; noted = noted_none (declares (plain_body c.args.fields.now)) c.args.notes.now.items }

pub loop-field-preserved : goal.loop-field-preserved
loop-field-preserved c = record {
  known = counted_next c.args.fields.now c.loop-field.field-index c.field-item.result c.loop-field-test.true c.field-item.is c.loop-field.values.now c.next_value-next.result.others.now _
      c.takes_value.result (known c.loop-field.notes.items) (known c.enter_field.new.notes.items) _ c.takes_value.ensures c.next_value-next.ensures.value c.next_value-next.ensures.others
      c.in_ok-enter_field.ensures.known c.loop-field.invariant.known;
  noted = noted_both (declares (plain_body c.args.fields.now)) c.args.notes.now.items c.loop-field.notes.items _ c.loop-field.invariant.noted
      (noted_wider (gives_key (plain_field c.field-item.result)) (declares (plain_body c.args.fields.now)) c.loop-field.notes.items _
      (each_declares c.args.fields.now c.loop-field.field-index c.field-item.result c.loop-field-test.true c.field-item.is) c.in_ok-enter_field.ensures.noted);
}
