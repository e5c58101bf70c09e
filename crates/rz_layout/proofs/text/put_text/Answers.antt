use Rattle.std.proofs.Common.{◌*◌, Err, sym, subst, ◌∙◌}
use Rattle.rz_layout.specs.Fault.{refusal_of}
use Rattle.rz_core.specs.Stop.{Gives, fault_seen, left}
use Rattle.rz_layout.specs.Laid.{draft_of}
use Rattle.rz_layout.specs.Late.{numbers_in}
use Rattle.rz_types_fields.specs.Known.{known}
use Rattle.rz_layout.proofs.Put.{pushed, put_is, text_bits, text_count}
use Rattle.rz_layout.proofs.Room.{few_after, marks_after, no_bits_room, pieces_after, put_draft}
use Rattle.rz_layout.proofs.text.put_text.Goals as goal

pub returns-in-Err-clause-laid : goal.returns-in-Err-clause-laid
returns-in-Err-clause-laid c =
    subst (λ r. Gives r (fault_seen refusal_of (left (draft_of c.args.laid.now) (Err c.in-Err.stop)))) (sym (put_is (draft_of c.args.laid.now) c.args.form c.args.size c.args.bytes.now c.in_default.ensures))
    (no_bits_room (draft_of c.args.laid.now) (text_bits (draft_of c.args.laid.now) c.args.form c.args.size c.args.bytes.now) (8 * c.stored_length.result)
    (text_count (draft_of c.args.laid.now) c.args.form c.args.size c.args.bytes.now c.unsigned-size.result c.stored_length.result c.unsigned-size.ensures c.stored_length.ensures.length)
    c.in-Err.stop c.in-Err.ensures (draft_of c.args.laid.now))

pub returns-clause-laid : goal.returns-clause-laid
returns-clause-laid c =
    put_is (draft_of c.args.laid.now) c.args.form c.args.size c.args.bytes.now c.in_default.ensures
    ∙ put_draft c.args.laid.now.piece c.one_more-laid.result c.args.laid.now.bits (text_bits (draft_of c.args.laid.now) c.args.form c.args.size c.args.bytes.now) c.push_text.new.bits c.args.laid.now.marks
    (known c.args.laid.now.notes.items) (numbers_in c.args.laid.now.late) c.one_more-laid.ensures
    (pushed (draft_of c.args.laid.now) c.args.form c.args.size c.args.bytes.now c.unsigned-size.result c.push_text.new.bits c.unsigned-size.ensures c.in_ok-push_text.ensures)
    c.requires.short.marks (8 * c.stored_length.result)
    (text_count (draft_of c.args.laid.now) c.args.form c.args.size c.args.bytes.now c.unsigned-size.result c.stored_length.result c.unsigned-size.ensures c.stored_length.ensures.length)
    c.in-Ok.ensures

pub returns-clause-short : goal.returns-clause-short
returns-clause-short c = record {
  few = few_after c.args.laid.now.bits (text_bits (draft_of c.args.laid.now) c.args.form c.args.size c.args.bytes.now) c.push_text.new.bits (8 * c.stored_length.result)
      (text_count (draft_of c.args.laid.now) c.args.form c.args.size c.args.bytes.now c.unsigned-size.result c.stored_length.result c.unsigned-size.ensures c.stored_length.ensures.length)
      c.in-Ok.ensures (pushed (draft_of c.args.laid.now) c.args.form c.args.size c.args.bytes.now c.unsigned-size.result c.push_text.new.bits c.unsigned-size.ensures c.in_ok-push_text.ensures);
  marks = marks_after c.args.laid.now.bits (text_bits (draft_of c.args.laid.now) c.args.form c.args.size c.args.bytes.now) c.push_text.new.bits c.args.laid.now.marks c.requires.short.marks
      (pushed (draft_of c.args.laid.now) c.args.form c.args.size c.args.bytes.now c.unsigned-size.result c.push_text.new.bits c.unsigned-size.ensures c.in_ok-push_text.ensures);
  pieces = pieces_after c.args.laid.now.piece c.one_more-laid.result c.one_more-laid.ensures c.requires.short.pieces;
}
