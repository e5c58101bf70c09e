use Rattle.std.proofs.Common.{◌≡◌, ℕ, ◌++◌, ap, ◌∙◌, sym, append_assoc, arith}
use Rattle.std.specs.List.{flat_map, range_with_len}
use Rattle.rz_tools_output.specs.SampleSource.{sample_source, sample_statement, sample_types}
use Rattle.rz_tools_output.proofs.SampleRows.{each_more}
use Rattle.rz_tools_output.proofs.sample.sample_source.Goals as goal

pub loop-k-preserved : goal.loop-k-preserved
loop-k-preserved c =
    c.in_ok-write_statement.ensures ∙ ap (λ l. l ++ sample_statement c.loop-k.k) c.loop-k.invariant
    ∙ append_assoc sample_types (flat_map sample_statement (range_with_len 0 c.loop-k.k)) (sample_statement c.loop-k.k)
    ∙ ap (λ l. sample_types ++ l) (sym (each_more sample_statement c.loop-k.k))

pub returns : goal.returns
unfolding sample_source
returns c =
    let all : c.loop-k.k ≡ c.args.count = omega arith in
    c.loop-k.invariant ∙ ap (λ (k : ℕ). sample_types ++ flat_map sample_statement (range_with_len 0 k)) all
