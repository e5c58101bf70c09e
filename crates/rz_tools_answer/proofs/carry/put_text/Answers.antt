use Rattle.std.proofs.Common.{length, sym}
use Rattle.std.proofs.lemmas.Bool.{eqb-true}
use Rattle.std.proofs.lemmas.List.{nil_from_length}
use Rattle.rz_tools_answer.proofs.Said.{done_out, failed_front, out_so_far}
use Rattle.rz_tools_answer.proofs.carry.put_text.Goals as goal

pub returns-then-is_empty-clause-done : goal.returns-then-is_empty-clause-done
returns-then-is_empty-clause-done g c done =
    let text = c.args.text.now in
    out_so_far text (nil_from_length text (eqb-true (length text) 0 (sym c.if-is_empty.ensures))) _

pub returns-else-is_empty-clause-done : goal.returns-else-is_empty-clause-done
returns-else-is_empty-clause-done g c done = done_out c.args.text.now _ _ c.put_out.result done c.put_out.ensures.told

pub returns-else-is_empty-clause-failed : goal.returns-else-is_empty-clause-failed
returns-else-is_empty-clause-failed g c failed = failed_front c.args.text.now _ _ c.put_out.result failed c.put_out.ensures.told
