use Rattle.std.proofs.Common.{inr, refl}
use Rattle.rz_tools_answer.specs.Plan.{answer_of}
use Rattle.rz_tools_answer.proofs.Carried.{not_tried, write_failed}
use Rattle.rz_tools_answer.proofs.carry.carry_out.Goals as goal

pub returns-in-Failed : goal.returns-in-Failed
returns-in-Failed g c = record {
  carried = rw c.say_write_fault-in-Failed.ensures.outcome (write_failed (answer_of c.args.plan) _ _ c.requires.well_formed c.in-Failed.ensures.told c.in-Failed.ensures.nothing
      (c.in-Failed.ensures.cause refl) refl _ c.as_slice-in-Failed.ensures c.say_write_fault-in-Failed.ensures.says);
  ended = inr c.say_write_fault-in-Failed.ensures.outcome;
  tried = not_tried _ _ _ refl;
}
