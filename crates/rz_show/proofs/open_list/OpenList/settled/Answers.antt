use Rattle.std.proofs.Common.{sym, ◌∙◌, arith}
use Rattle.rz_show.proofs.Left.{settled_end, settled_fields}
use Rattle.rz_show.proofs.open_list.OpenList.settled.Goals as goal
use Rattle.rz_show.proofs.open_list.OpenList.settled.Goals.{else-rows-test, then-rows-test+in_default}

pub returns-clause-settled : goal.returns-clause-settled
returns-clause-settled c = record {
  fields = c.rows.invariant.sound;
  row = c.requires.row;
  settled = elim c.rows-test.branch [
    | else-rows-test w ↦ settled_fields c.rows.fields.now c.rows.rows.now c.rows.invariant.front (sym c.is_empty.ensures ∙ w.rows-test.false)
    | then-rows-test+in_default w ↦ settled_end c.rows.fields.now c.rows.rows.now c.rows.invariant.front (omega (arith, w.in_default.ensures.cases))
  ];
}
