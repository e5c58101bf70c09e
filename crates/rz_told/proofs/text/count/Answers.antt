use Rattle.std.proofs.Common.{ℕ, ap, ◌∙◌}
use Rattle.std.specs.Prelude.{codes}
use Rattle.rz_core.specs.Decimal.{decimal_of}
use Rattle.rz_told.proofs.Sizes.{count_size, one_written}
use Rattle.rz_told.specs.Text.{fact}
use Rattle.rz_told.proofs.text.count.Goals as goal

pub returns : goal.returns
returns c =
    one_written c.new-line.result c.number_fact.new.line (fact (codes "resources") (decimal_of c.from.result)) c.new-line.ensures c.number_fact.ensures (count_size c.from.result c.from.type_inv)
    ∙ ap (λ (n : ℕ). fact (codes "resources") (decimal_of n)) (c.from.ensures ∙ c.len.ensures)
