use Rattle.std.proofs.Common.{ap, ◌∙◌}
use Rattle.rz_stmt_items.specs.Item as plain
use Rattle.rz_stmt_items.proofs.Alone.{number_alone, one_item}
use Rattle.rz_stmt_items.proofs.Mirror.{number_is}
use Rattle.rz_stmt_items.proofs.simple.one_number.Goals as goal

pub returns-in-Number : goal.returns-in-Number
returns-in-Number c =
    number_alone c.args.mark c.args.tokens.now c.token-item.result c.in-Number.number _
    (one_item c.args.tokens.now c.token-item.result c.in-len1.len_at_least c.in-len1.len_below c.token-item.is) c.in-Number.is
    (number_is c.constant.result c.args.mark ∙ ap (λ term. plain.Number term c.args.mark) c.constant.ensures)
