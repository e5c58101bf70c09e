use Rattle.std.proofs.Common.{◌∙◌}
use Rattle.rz_layout.specs.Laid.{draft_of}
use Rattle.rz_layout.proofs.Groups.{number_more, number_refused}
use Rattle.rz_layout.proofs.points.lay_group.Goals as goal

pub returns-in-Err-clause-laid : goal.returns-in-Err-clause-laid
returns-in-Err-clause-laid c =
    number_refused c.args._facts.now c.args.numbers.now c.loop-number.number-index c.loop-number-test.true (draft_of c.loop-number.laid) _
    c.loop-number.invariant.laid c.in-Err.stop (draft_of c.put_number.new.self) c.in-Err.ensures.laid (draft_of c.put_number.new.self)

pub loop-number-preserved : goal.loop-number-preserved
loop-number-preserved c = record {
  laid = number_more c.args._facts.now c.args.numbers.now c.loop-number.number-index c.loop-number-test.true (draft_of c.loop-number.laid) _
      c.loop-number.invariant.laid (draft_of c.put_number.new.self) c.in-Ok.ensures.laid;
  short = c.in-Ok.ensures.short;
  notes = c.in-Ok.ensures.notes ∙ c.loop-number.invariant.notes;
}
