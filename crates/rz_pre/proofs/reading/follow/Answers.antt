use Rattle.std.proofs.Common.{ap, sym, reverse, ◌∙◌}
use Rattle.rz_pre.specs.Program.{opens_after}
use Rattle.rz_pre.specs.declared.act.Act.{Act}
use Rattle.rz_pre.proofs.reading.follow.Goals as goal

pub returns-in_ok-turn-in-Turn-clause-opens : goal.returns-in_ok-turn-in-Turn-clause-opens
returns-in_ok-turn-in-Turn-clause-opens c =
    c.in_ok-turn-in-Turn.ensures c.args.mark ∙ ap (λ (act : Act). opens_after c.args.mark act (reverse c.args.opens.now.items)) (sym c.in-Turn.is)
