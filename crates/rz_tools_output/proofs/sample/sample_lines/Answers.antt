use Rattle.std.proofs.Common.{ℕ, ◌++◌, ap, ◌∙◌}
use Rattle.std.specs.Prelude.{codes}
use Rattle.rz_tools_output.specs.SampleSource.{number_line}
use Rattle.rz_tools_output.proofs.SampleRows.{lines_written}
use Rattle.rz_tools_output.proofs.sample.sample_lines.Goals as goal

pub returns : goal.returns
returns c =
    lines_written c.args.count c.from.result c.args.fork.now c.args.text.now c.args.again.now _ _ _ _ _ c.new-lines.ensures c.from.ensures
    c.in_ok-write_line.ensures
    (c.in_ok-write_line-2.ensures ∙ ap (λ (n : ℕ). c.write_line.new.into ++ number_line (codes "fork ") n) c.len.ensures)
    (c.in_ok-write_line-3.ensures ∙ ap (λ (n : ℕ). c.write_line-2.new.into ++ number_line (codes "text ") n) c.len-2.ensures)
    (c.in_ok-write_line-4.ensures ∙ ap (λ (n : ℕ). c.write_line-3.new.into ++ number_line (codes "again ") n) c.len-3.ensures)
