use Rattle.std.proofs.Common.{sym, ap, ◌∙◌, arith}
use Rattle.std.proofs.lemmas.List.{length-map}
use Rattle.rz_pre.specs.Macros.{rows_of}
use Rattle.rz_pre.specs.Reading.{is_among}
use Rattle.rz_pre.proofs.Names.{live_row_more, dead_row_more, names_live, all_live, row_at_index, is_some_row, none_within, distinct_rows}
use Rattle.rz_pre.proofs.Rows.{row}
use Rattle.rz_pre.proofs.macros.Macros.names.Goals as goal
use Rattle.rz_pre.proofs.macros.Macros.names.Goals.{in-Some+then-is_some+in_ok-of+in_ok-push, in-Some+else-is_some, in_default}

pub loop-index-preserved : goal.loop-index-preserved
loop-index-preserved c = elim c.match-get_index.branch [
  | in-Some+then-is_some+in_ok-of+in_ok-push w ↦ rw w.words-is (live_row_more (rows_of c.args.self.now) c.loop-index.index (row (w.in-Some.name.now, w.in-Some.body.now))
      (row_at_index c.args.self.now.held.entries c.loop-index.index (w.in-Some.name.now, w.in-Some.body.now) (sym w.in-Some.ensures.entry))
      c.loop-index.words w.push.new.self c.loop-index.invariant (is_some_row (w.in-Some.name.now, w.in-Some.body.now) ∙ sym w.if-is_some.ensures)
      (rw (w.in_ok-of.ensures, w.deref.ensures.value) at w.in_ok-push.ensures.ok))
  | in-Some+else-is_some w ↦ rw w.words-is (dead_row_more (rows_of c.args.self.now) c.loop-index.index (row (w.in-Some.name.now, w.in-Some.body.now))
      (row_at_index c.args.self.now.held.entries c.loop-index.index (w.in-Some.name.now, w.in-Some.body.now) (sym w.in-Some.ensures.entry))
      c.loop-index.words c.loop-index.invariant (is_some_row (w.in-Some.name.now, w.in-Some.body.now) ∙ sym w.if-is_some.ensures))
  | in_default w ↦ absurd (none_within c.args.self.now.held.entries c.loop-index.index (sym w.in_default.ensures.entry) (omega (arith, c.loop-index-test.true, c.len-index-end.ensures.len)))
]

pub returns : goal.returns
returns c = λ name. ap (is_among name) (all_live (rows_of c.args.self.now) c.loop-index.index c.loop-index.words c.loop-index.invariant
    (omega (arith, c.loop-index-test.false, c.len-index-end.ensures.len, length-map c.args.self.now.held.entries row)))
    ∙ names_live (rows_of c.args.self.now) (distinct_rows c.args.self.now.held.entries c.len-index-end.ensures.unique) name
