use Rattle.std.proofs.Common.{false}
use Rattle.std.proofs.lemmas.List.{length-replicate}
use Rattle.rz_bits.specs.BitBuf.{zeros}
use Rattle.rz_layout.specs.Laid.{draft_of}
use Rattle.rz_layout.specs.Late.{numbers_in}
use Rattle.rz_types_fields.specs.Known.{known}
use Rattle.rz_layout.proofs.Room.{few_after, marks_after, no_bits_room, pieces_after, put_draft}
use Rattle.rz_layout.proofs.laid.Laid.put_zeros.Goals as goal

pub returns-in-Err-clause-laid : goal.returns-in-Err-clause-laid
returns-in-Err-clause-laid c =
    no_bits_room (draft_of c.args.self.now) (zeros c.args.count) c.args.count (length-replicate c.args.count false) c.in-Err.stop c.in-Err.ensures
    (draft_of c.args.self.now)

pub returns-clause-laid : goal.returns-clause-laid
returns-clause-laid c =
    put_draft c.args.self.now.piece c.one_more-self.result c.args.self.now.bits (zeros c.args.count) c.push_many.new.self c.args.self.now.marks
    (known c.args.self.now.notes.items) (numbers_in c.args.self.now.late) c.one_more-self.ensures c.in_ok-push_many.ensures.ok c.requires.short.marks c.args.count
    (length-replicate c.args.count false) c.in-Ok.ensures

pub returns-clause-short : goal.returns-clause-short
returns-clause-short c = record {
  few = few_after c.args.self.now.bits (zeros c.args.count) c.push_many.new.self c.args.count (length-replicate c.args.count false) c.in-Ok.ensures c.in_ok-push_many.ensures.ok;
  marks = marks_after c.args.self.now.bits (zeros c.args.count) c.push_many.new.self c.args.self.now.marks c.requires.short.marks c.in_ok-push_many.ensures.ok;
  pieces = pieces_after c.args.self.now.piece c.one_more-self.result c.one_more-self.ensures c.requires.short.pieces;
}
