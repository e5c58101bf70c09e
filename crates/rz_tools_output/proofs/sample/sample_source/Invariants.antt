use Rattle.std.proofs.Common.{◌≡◌, ◌++◌}
use Rattle.std.specs.List.{flat_map, range_with_len}
use Rattle.rz_tools_output.specs.SampleSource.{sample_statement, sample_types}
use Rattle.rz_tools_output.proofs.sample.sample_source.Given as goal

abbrev pub invariant-loop-k : goal.invariant-loop-k
invariant-loop-k l = l.source ≡ sample_types ++ flat_map sample_statement (range_with_len 0 l.k)
