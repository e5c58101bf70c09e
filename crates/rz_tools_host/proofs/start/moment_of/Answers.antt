use Rattle.std.proofs.Common.{string_bytes}
use Rattle.rz_tools_host.specs.Given.{source_date_epoch}
use Rattle.rz_tools_host.proofs.Told.{by_clock, no_text, over, over_both}
use Rattle.rz_tools_host.proofs.start.moment_of.Goals as goal

pub returns-in-Ok-None-clause-moment : goal.returns-in-Ok-None-clause-moment
returns-in-Ok-None-clause-moment g c =
    over_both (g.H.Host.process c.args.host.now)
    (λ process held told. by_clock string_bytes c.in-Ok-None.field-0 c.in-Ok-None.field-0-is (process.variables source_date_epoch) held _ process.clock told c.moment_at.result c.moment_at.ensures)
    c.in-Ok-None.ensures c.clock.ensures

pub returns-in-Err-Refused-clause-none : goal.returns-in-Err-Refused-clause-none
returns-in-Err-Refused-clause-none g c =
    over (g.H.Host.process c.args.host.now)
    (λ process gives. no_text c.in-Err-Refused.field-0 _ c.in-Err-Refused.field-0-is (process.variables source_date_epoch) process.clock gives) c.in-Err-Refused.ensures
