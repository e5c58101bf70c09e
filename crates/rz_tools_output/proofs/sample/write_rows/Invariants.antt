use Rattle.std.proofs.Common.{◌≡◌, ◌++◌}
use Rattle.std.specs.Prelude.{map}
use Rattle.std.specs.List.{range_with_len}
use Rattle.rz_tools_output.specs.SampleSource.{rows_text, sample_row}
use Rattle.rz_tools_output.proofs.sample.write_rows.Given as goal

abbrev pub invariant-loop-j : goal.invariant-loop-j
invariant-loop-j l = l.into ≡ l.fn.into ++ rows_text (map (sample_row l.k) (range_with_len 0 l.j))
