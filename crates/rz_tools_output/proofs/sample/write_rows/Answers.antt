use Rattle.rz_tools_output.specs.SampleSource.{sample_row}
use Rattle.rz_tools_output.proofs.SampleRows.{first_written, next_written}
use Rattle.rz_tools_output.proofs.sample.write_rows.Goals as goal
use Rattle.rz_tools_output.proofs.sample.write_rows.Goals.{then-j-gt0+in_ok-append, else-j-gt0}
use Rattle.std.proofs.Common.{ap, ◌∙◌, ◌++◌}

pub loop-j-preserved : goal.loop-j-preserved
loop-j-preserved c =
    elim c.if-j-gt0.branch [
      | then-j-gt0+in_ok-append w ↦ next_written (sample_row c.args.k) c.args.into.now c.loop-j.into w.append.new.self c.write_row.new.into c.loop-j.j w.if-j-gt0.true
          c.loop-j.invariant w.in_ok-append.ensures.ok (c.in_ok-write_row.ensures ∙ ap (λ l. l ++ sample_row c.args.k c.loop-j.j) w.into-is)
      | else-j-gt0 w ↦ first_written (sample_row c.args.k) c.args.into.now c.loop-j.into c.write_row.new.into c.loop-j.j w.if-j-gt0.false
          c.loop-j.invariant (c.in_ok-write_row.ensures ∙ ap (λ l. l ++ sample_row c.args.k c.loop-j.j) w.into-is)
    ]
