use Rattle.std.proofs.Common.{ℕ, ◌++◌, ap, ◌∙◌}
use Rattle.rz_core.specs.Decimal.{decimal_of}
use Rattle.rz_tools_output.specs.SampleSource.{sample_statement}
use Rattle.rz_tools_output.proofs.SampleRows.{five_written}
use Rattle.rz_tools_output.proofs.sample.write_statement.Goals as goal

pub returns : goal.returns
unfolding sample_statement
returns c =
    five_written _ _ _ _ _ _ _ _ _ _ _ c.in_ok-append.ensures.ok
    (c.in_ok-write_decimal.ensures.ok ∙ ap (λ (k : ℕ). c.append.new.self ++ decimal_of k) c.from.ensures)
    c.in_ok-append-2.ensures.ok c.in_ok-write_rows.ensures c.in_ok-append-3.ensures.ok
